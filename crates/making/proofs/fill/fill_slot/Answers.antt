-- Cleared, then the new object, then the slot.
use Rattle.effects.proofs.Writing.{rewritten_then, rewritten_sized}
use Rattle.objects.proofs.Rooms.{room_same}
use Rattle.making.proofs.Filling.{filled, inside_same}
use Rattle.walk.specs.Shapes.{shape_meant}
use Rattle.making.proofs.fill.fill_slot.Goals as goal

pub returns : goal.returns
returns g c =
    let p = c.clear_slot.ensures in
    let q = c.open_object.ensures in
    let r = c.aim_slot.ensures in
    let pq = rewritten_then _ _ _ p.rewritten q.rewritten in
    record {
      rewritten = rewritten_then _ _ _ pq r.rewritten;
      words = λ from u same slot sized fit inside there.
          filled _ _ _ _ c.args.object.slot.segment c.args.object.slot.word u c.args.object.start.segment c.args.object.start.word (shape_meant c.args.object.shape)
          (p.words from u same slot sized inside)
          (q.words (rewritten_sized _ _ p.rewritten sized) fit (room_same _ _ _ _ _ _ p.rewritten.same_table there))
          (r.words (rewritten_sized _ _ pq sized) fit (inside_same _ _ _ _ pq.same_table inside) (room_same _ _ _ _ _ _ pq.same_table there));
    }
