-- Eight bytes, the lowest first.
use Rattle.objects.proofs.Spelling.{text_sum}
use Rattle.objects.proofs.text.text_word.Goals as goal

pub returns : goal.returns
returns c =
    record { value = text_sum c.args.bytes.now c.args.k _ _ _ _ _ _ _ _ c.byte_at.ensures.value c.byte_at-2.ensures.value c.byte_at-3.ensures.value c.byte_at-4.ensures.value c.byte_at-5.ensures.value c.byte_at-6.ensures.value c.byte_at-7.ensures.value c.byte_at-8.ensures.value }
