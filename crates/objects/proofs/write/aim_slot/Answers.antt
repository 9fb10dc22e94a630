-- One word is written.
use Rattle.objects.proofs.Rooms.{places_small, aimed}
use Rattle.objects.proofs.write.aim_slot.Goals as goal

pub returns : goal.returns
returns g c =
    record {
      rewritten = c.write_word.ensures.rewritten;
      words = λ sized fit inside there.
          let k = places_small c.args.arena.now.table c.args.object.slot.segment c.args.object.slot.word c.args.object.start.segment c.args.object.start.word _ inside there in
          aimed _ _ c.args.object.slot.segment c.args.object.slot.word _ _ (c.write_word.ensures.words sized inside) (c.slot_pointer.ensures.value fit k.0 k.1);
    }
