-- First the pad, then the tag.
use Rattle.walk.specs.Shapes.{shape_meant}
use Rattle.effects.proofs.Writing.{rewritten_then, rewritten_sized}
use Rattle.objects.proofs.Rooms.{room_same, tagged_after}
use Rattle.objects.proofs.write.open_object.Goals as goal

pub returns : goal.returns
returns g c =
    let p = c.write_pad.ensures in
    let q = c.write_tag.ensures in
    record {
      rewritten = rewritten_then _ _ _ p.rewritten q.rewritten;
      words = λ sized fit there.
          tagged_after _ _ _ c.args.object.start.segment c.args.object.start.word (shape_meant c.args.object.shape)
          (q.words (rewritten_sized _ _ p.rewritten sized) fit (room_same _ _ _ _ _ _ p.rewritten.same_table there))
          (p.words sized fit there);
    }
