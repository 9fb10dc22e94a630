-- No segment has the words left, and one is granted.
use Rattle.std.proofs.Common.{◌≡◌, ℕ, length, is_some, sym, ap, ◌∙◌, inr, arith}
use Rattle.table.specs.Meaning.{table_of}
use Rattle.arena.proofs.Grants.{unfound_same, granted_words}
use Rattle.arena.proofs.BuilderArena.allocate_anywhere.Goals as goal

pub unwrap-w-requires : goal.unwrap-w-requires
unwrap-w-requires g c =
    let b = g.S.Source.bounds c.args.self.now.source c.args.n c.in_ok-c.c c.in_ok-c.ensures.outcome.offered in
    let same = c.allocate_first.ensures.after ∙ unfound_same (table_of c.args.self.now.table) c.args.n (sym c.in_default.ensures.value) in
    let w = granted_words (table_of c.args.self.now.table) _ (table_of c.add.new.self) c.count-g.result c.args.n c.in_ok-c.c same c.count-g.ensures.value (omega arith) b.1 b.2 c.add.ensures.after in
    ap is_some (c.allocate.ensures.value ∙ w.0)

pub returns : goal.returns
returns g c =
    let none = c.in_default.ensures.value in
    let k = c.in_ok-c.ensures.outcome in
    let b = g.S.Source.bounds c.args.self.now.source c.args.n c.in_ok-c.c k.offered in
    let same = c.allocate_first.ensures.after ∙ unfound_same (table_of c.args.self.now.table) c.args.n (sym none) in
    let w = granted_words (table_of c.args.self.now.table) _ (table_of c.add.new.self) c.count-g.result c.args.n c.in_ok-c.c same c.count-g.ensures.value (omega arith) b.1 b.2 c.add.ensures.after in
    let count : c.count-g.result ≡ length (table_of c.args.self.now.table) = c.count-g.ensures.value ∙ ap length same in
    let zero_is : c.unwrap-w.result ≡ 0 = cc (c.unwrap-w.ensures, c.allocate.ensures.value, w.0) in
    record {
      outcome = inr (record {
        none_left = sym none;
        few = omega arith;
        capacity = c.in_ok-c.c;
        offered = k.offered;
        pair_is = ap (λ (i : ℕ). (i, c.unwrap-w.result)) count ∙ ap (λ (i : ℕ). (length (table_of c.args.self.now.table), i)) zero_is;
        table_is = c.allocate.ensures.after ∙ w.1;
        segments_are = k.memory;
        first_kept = c.grant.ensures.first;
      });
    }
