-- An allocation takes the next words of a segment that has as many left, and changes nothing else.
use Rattle.std.proofs.Common.{◌≡◌, ◌-◌, true, false, Some, refl, ap, sym, ◌∙◌}
use Rattle.std.proofs.lemmas.Bool.{le-leb, lt-leb}
use Rattle.table.specs.Meaning.{table_of, has_room}
use Rattle.table.proofs.Entries.{allocated_here, room_here, take_written}
use Rattle.table.proofs.SegmentTable.allocate.Goals as goal
use Rattle.table.proofs.SegmentTable.allocate.Goals.{After-index-self-g-2}

short : (c : goal.Then-n-left) → has_room (table_of c.args.self.now) c.args.g c.args.n ≡ false
short c =
    let h = c.in_ok-e.ensures.lookup in
    room_here c.in_ok-e.field-0.now (lib.ListN.take c.args.self.now.count c.args.self.now.entries) c.args.g c.args.n h.3.0 h.1 ∙
    lt-leb c.args.n (c.in_ok-e.field-0.now.capacity - c.in_ok-e.field-0.now.allocated) (rw (sym c.left.ensures) c.if-n-left.true)

pub returns-then-n-left-clause-value : goal.returns-then-n-left-clause-value
returns-then-n-left-clause-value c = rw (short c) refl

pub returns-then-n-left-clause-after : goal.returns-then-n-left-clause-after
returns-then-n-left-clause-after c = rw (short c) refl

enough : (c : goal.After-self-1) → has_room (table_of c.args.self.now) c.args.g c.args.n ≡ true
enough c =
    let h = c.in_ok-e.ensures.lookup in
    room_here c.in_ok-e.field-0.now (lib.ListN.take c.args.self.now.count c.args.self.now.entries) c.args.g c.args.n h.3.0 h.1 ∙
    le-leb c.args.n (c.in_ok-e.field-0.now.capacity - c.in_ok-e.field-0.now.allocated) (rw (sym c.left.ensures) c.if-n-left.false)

pub returns-clause-value : goal.returns-clause-value
returns-clause-value c =
    let h = c.in_ok-e.ensures.lookup in
    rw (enough c) (ap Some (sym (allocated_here c.in_ok-e.field-0.now (lib.ListN.take c.args.self.now.count c.args.self.now.entries) c.args.g h.3.0 h.1)))

pub returns-clause-after : goal.returns-clause-after
returns-clause-after c =
    rw (enough c) (take_written c.args.self.now.count c.args.self.now.entries c.args.g c.args.n _ c.index-self-g.result c.index-self-g-2.result refl refl)
