-- Segments go back to a mark one after another.
use Rattle.std.proofs.Common.{◌≡◌, ℕ, zero, suc, ◌+◌, ◌-◌, ◌<◌, ◌≤◌, ◌≢◌, List, map, length, sym, refl, ap, ◌∙◌, ⊎_elim, add-one, arith}
use Rattle.std.proofs.lemmas.Bool.{cases_lt, cases_eq}
use Rattle.segments.specs.Memory.{segment, word}
use Rattle.table.specs.Segments.{Table, allocated_in}
use Rattle.table.proofs.Entries.{allocated_past}
use Rattle.arena.specs.Zeroed.{zeroed_words, rewound_words, Rewound}
use Rattle.arena.proofs.Zeros.{zeroed_is, zeroed_sizes}

-- the first k segments are at the mark
pub record Partly (m n : List (List ℕ)) (t mark : Table) (k : ℕ) : Type 0 where
  pub since : (x w : ℕ) → x < k → allocated_in mark x ≤ w → w < allocated_in t x → word n x w ≡ 0
  pub elsewhere : (x w : ℕ) → (x < k → allocated_in mark x ≤ w → w < allocated_in t x → ⊥) → word n x w ≡ word m x w
  pub lengths : (x : ℕ) → length (segment n x) ≡ length (segment m x)

pub partly_is : (m : List (List ℕ)) (t mark : Table) (k : ℕ) → Partly m (rewound_words m t mark k) t mark k
partly_is m t mark zero =
    record { since = λ x w h l e. absurd (omega arith); elsewhere = λ x w o. refl; lengths = λ x. refl }
partly_is m t mark (suc k) =
    let r = partly_is m t mark k in
    let n : List (List ℕ) = rewound_words m t mark k in
    let z = zeroed_is n k (allocated_in mark k) (allocated_in t k - allocated_in mark k) in
    record {
      since = λ x w h l e.
          ⊎_elim
          (λ (q : x ≡ k).
          let a : allocated_in mark k ≤ w = rw q at l in
          let b : w < allocated_in t k = rw q at e in
          rw q (z.inside w a (omega arith)))
          (λ (d : x ≢ k). z.elsewhere x w (λ q _ _. d q) ∙ r.since x w (omega arith) l e)
          (cases_eq x k);
      elsewhere = λ x w o.
          z.elsewhere x w
          (λ q a b.
          o (omega arith) (rw q a) (let f : w < allocated_in t k = omega arith in rw q f)) ∙
          r.elsewhere x w (λ h a b. o (omega arith) a b);
      lengths = λ x. z.lengths x ∙ r.lengths x;
    }

pub rewound_sizes : (m : List (List ℕ)) (t mark : Table) (k : ℕ) → map length (rewound_words m t mark k) ≡ map length m
rewound_sizes m t mark zero = refl
rewound_sizes m t mark (suc k) =
    zeroed_sizes (rewound_words m t mark k) k (allocated_in mark k) (allocated_in t k - allocated_in mark k) ∙ rewound_sizes m t mark k

pub rewound_is : (m : List (List ℕ)) (t mark : Table) → Rewound m (rewound_words m t mark (length t)) t mark
rewound_is m t mark =
    let p = partly_is m t mark (length t) in
    record {
      since = λ x w a b.
          ⊎_elim
          (λ (h : x < length t). p.since x w h a b)
          (λ (h : length t ≤ x). let z = allocated_past t x h in absurd (omega arith))
          (cases_lt x (length t));
      elsewhere = λ x w o. p.elsewhere x w (λ _. o);
      lengths = p.lengths;
    }

pub rewound_more : (m : List (List ℕ)) (t mark : Table) (k : ℕ) →
    zeroed_words (rewound_words m t mark k) k (allocated_in mark k) (allocated_in t k - allocated_in mark k) ≡ rewound_words m t mark (k + 1)
rewound_more m t mark k = ap (rewound_words m t mark) (sym (add-one k))
