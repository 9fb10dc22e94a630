-- Words set to zero one after another.
use Rattle.std.proofs.Common.{◌≡◌, ℕ, zero, suc, ◌+◌, ◌-◌, ◌≤◌, ◌≢◌, List, [], ◌∷◌, map, length, get_or, set, Ok, Err, Result, sym, refl, ap, ◌∙◌, ⊎_elim, arith}
use Rattle.std.proofs.lemmas.List.{length-set, get_or-set_other, set-get_or, set_past}
use Rattle.std.proofs.Math.Seq.{map-set_same}
use Rattle.std.proofs.lemmas.Bool.{cases_eq}
use Rattle.segments.specs.declared.refusal.Outside.{Outside}
use Rattle.segments.specs.Memory.{segment, word, put}
use Rattle.segments.specs.Calls.{Written}
use Rattle.arena.specs.Zeroed.{zeroed_words, Zeroed}

-- ## One word

-- a write, also one that is refused
pub written_put : {X : Type 0} (r : Result X Outside) (m n : List (List ℕ)) (g w v : ℕ) → Written r m n g w v → n ≡ put m g w v
written_put (Ok x) m n g w v h = h.memory
written_put (Err y) m n g w v h =
    h.memory ∙ (sym (set-get_or m g []) ∙ ap (λ (s : List ℕ). set m g s) (sym (set_past (segment m g) w v h.beyond)))

put_segment : (m : List (List ℕ)) (g w v : ℕ) → segment (put m g w v) g ≡ set (segment m g) w v
put_segment [] g w v = refl
put_segment (s ∷ m) zero w v = refl
put_segment (s ∷ m) (suc g) w v = put_segment m g w v

put_other : (m : List (List ℕ)) (g w v x : ℕ) → x ≢ g → segment (put m g w v) x ≡ segment m x
put_other m g w v x n = get_or-set_other m g x (set (segment m g) w v) [] n

pub put_lengths : (m : List (List ℕ)) (g w v x : ℕ) → length (segment (put m g w v) x) ≡ length (segment m x)
put_lengths m g w v x =
    ⊎_elim
    (λ (e : x ≡ g). rw e (ap length (put_segment m g w v) ∙ length-set (segment m g) w v))
    (λ (n : x ≢ g). ap length (put_other m g w v x n))
    (cases_eq x g)

pub put_sizes : (m : List (List ℕ)) (g w v : ℕ) → map length (put m g w v) ≡ map length m
put_sizes m g w v = map-set_same length m g (set (segment m g) w v) [] (length-set (segment m g) w v)

zero_there : (s : List ℕ) (w : ℕ) → get_or (set s w 0) w 0 ≡ 0
zero_there [] w = refl
zero_there (x ∷ s) zero = refl
zero_there (x ∷ s) (suc w) = zero_there s w

put_zero : (m : List (List ℕ)) (g w : ℕ) → word (put m g w 0) g w ≡ 0
put_zero m g w = ap (λ (s : List ℕ). get_or s w 0) (put_segment m g w 0) ∙ zero_there (segment m g) w

put_else : (m : List (List ℕ)) (g w v x y : ℕ) → (x ≡ g → y ≡ w → ⊥) → word (put m g w v) x y ≡ word m x y
put_else m g w v x y n =
    ⊎_elim
    (λ (e : x ≡ g). rw e (ap (λ (s : List ℕ). get_or s y 0) (put_segment m g w v) ∙ get_or-set_other (segment m g) w y v 0 (n e)))
    (λ (d : x ≢ g). ap (λ (s : List ℕ). get_or s y 0) (put_other m g w v x d))
    (cases_eq x g)

-- ## Many

-- the words below w are zero, and word w too
pub zeroed_more : (m : List (List ℕ)) (g from w : ℕ) → from ≤ w → put (zeroed_words m g from (w - from)) g w 0 ≡ zeroed_words m g from (w + 1 - from)
zeroed_more m g from w h =
    let e : w + 1 - from ≡ suc (w - from) = omega arith in
    let k : from + (w - from) ≡ w = omega arith in
    rw e (ap (λ (i : ℕ). put (zeroed_words m g from (w - from)) g i 0) (sym k))

pub zeroed_is : (m : List (List ℕ)) (g from n : ℕ) → Zeroed m (zeroed_words m g from n) g from n
zeroed_is m g from zero = record { inside = λ w l h. absurd (omega arith); elsewhere = λ x w n. refl; lengths = λ x. refl }
zeroed_is m g from (suc n) =
    let r = zeroed_is m g from n in
    let k : List (List ℕ) = zeroed_words m g from n in
    record {
      inside = λ w l h.
          ⊎_elim
          (λ (e : w ≡ from + n). rw e (put_zero k g (from + n)))
          (λ (d : w ≢ from + n). put_else k g (from + n) 0 g w (λ _. d) ∙ r.inside w l (omega arith))
          (cases_eq w (from + n));
      elsewhere = λ x w o.
          put_else k g (from + n) 0 x w (λ e f. o e (omega arith) (omega arith)) ∙ r.elsewhere x w (λ e l h. o e l (omega arith));
      lengths = λ x. put_lengths k g (from + n) 0 x ∙ r.lengths x;
    }

pub zeroed_sizes : (m : List (List ℕ)) (g from n : ℕ) → map length (zeroed_words m g from n) ≡ map length m
zeroed_sizes m g from zero = refl
zeroed_sizes m g from (suc n) = put_sizes (zeroed_words m g from n) g (from + n) 0 ∙ zeroed_sizes m g from n

pub zeroed_at : (m m' : List (List ℕ)) (g from n count : ℕ) → n ≡ count → m' ≡ zeroed_words m g from n → Zeroed m m' g from count
zeroed_at m m' g from n count e is = rw (is, e) (zeroed_is m g from count)
