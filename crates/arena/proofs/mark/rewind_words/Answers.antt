-- One segment more goes back to the mark.
use Rattle.std.proofs.Common.{◌≡◌, ℕ, ◌-◌, List, ap, ◌∙◌}
use Rattle.table.specs.Segments.{Table, allocated_in}
use Rattle.table.specs.Meaning.{table_of}
use Rattle.arena.specs.Zeroed.{zeroed_words, rewound_words}
use Rattle.arena.proofs.Rewind.{rewound_more}
use Rattle.arena.proofs.mark.rewind_words.Goals as goal

pub loop-g-preserved : goal.loop-g-preserved
loop-g-preserved g c =
    let m : List (List ℕ) = g.S.Reading.segments c.args.source.now in
    let t : Table = table_of c.args.table.now in
    let k : Table = table_of c.args.mark.now in
    let i : ℕ = c.loop-g.g in
    let from : c.allocated-from.result ≡ allocated_in k i = c.allocated-from.ensures.value in
    let n : c.saturating_sub.result ≡ allocated_in t i - allocated_in k i =
    c.saturating_sub.ensures ∙
    (ap (λ (x : ℕ). x - c.allocated-from.result) c.allocated.ensures.value ∙ ap (λ (x : ℕ). allocated_in t i - x) from) in
    record {
      words = c.zero_words.ensures.words ∙
          (ap (λ (x : List (List ℕ)). zeroed_words x i c.allocated-from.result c.saturating_sub.result) c.loop-g.invariant.words ∙
          (ap (λ (x : ℕ). zeroed_words (rewound_words m t k i) i x c.saturating_sub.result) from ∙
          (ap (λ (x : ℕ). zeroed_words (rewound_words m t k i) i (allocated_in k i) x) n ∙ rewound_more m t k i)));
      offers = c.zero_words.ensures.steady.offers ∙ c.loop-g.invariant.offers;
      first = c.zero_words.ensures.steady.first ∙ c.loop-g.invariant.first;
      fault = c.zero_words.ensures.steady.fault ∙ c.loop-g.invariant.fault;
    }
