-- Writes and grants on lists of words, as changes of memory.
use Rattle.std.proofs.Common.{◌≡◌, ℕ, zero, suc, ◌-◌, ◌<◌, ◌≤◌, ◌⊎◌, List, [], ◌∷◌, ◌++◌, length, get_or, set, replicate, sym, refl, inl, inr, ⊎_elim}
use mathlib.Core.Path.{fun_ext}
use lib.ListN.{length-replicate}
use Rattle.std.proofs.lemmas.List.{get_or-set_same, get_or-set_other, get_or_append_left, get_or-append_right, get_or-replicate, get_or_past}
use Rattle.std.proofs.lemmas.Bool.{cases_lt, cases_eq}
use Rattle.tree.specs.Value.{change}
use Rattle.tree.specs.Words.{word, written}
use Rattle.tree.proofs.Context.{change_here, change_else}

pub word_written : (m : List (List ℕ)) (g w x : ℕ) → g < length m → w < length (get_or m g []) → word (written m g w x) ≡ change (word m) g w x
unfolding word
word_written m g w x hg hw = fun_ext (λ a. fun_ext (λ b. at a b (cases_eq a g) (cases_eq b w)))
  where
    at : (a b : ℕ) → (a ≡ g) ⊎ (a ≡ g → ⊥) → (b ≡ w) ⊎ (b ≡ w → ⊥) →
        get_or (get_or (set m g (set (get_or m g []) w x)) a []) b 0 ≡ change (λ a b. get_or (get_or m a []) b 0) g w x a b
    at a b (inl e) (inl f) =
        rw (e, f, get_or-set_same m g (set (get_or m g []) w x) [] hg, get_or-set_same (get_or m g []) w x 0 hw) (sym (change_here (λ a b. get_or (get_or m a []) b 0) g w x))
    at a b (inl e) (inr n) =
        rw (e, get_or-set_same m g (set (get_or m g []) w x) [] hg, get_or-set_other (get_or m g []) w b x 0 n)
        (sym (change_else (λ a b. get_or (get_or m a []) b 0) g w x g b (λ _. n)))
    at a b (inr n) f =
        rw (get_or-set_other m g a (set (get_or m g []) w x) [] n) (sym (change_else (λ a b. get_or (get_or m a []) b 0) g w x a b (λ q _. n q)))

pub word_granted : (m : List (List ℕ)) (n : ℕ) → word (m ++ (replicate n 0 ∷ [])) ≡ word m
unfolding word
word_granted m n = fun_ext (λ a. fun_ext (λ b. at a b (cases_lt a (length m))))
  where
    zeros : (b : ℕ) → ◌≡◌ {A = ℕ} (get_or (replicate n 0) b 0) 0
    zeros b =
        ⊎_elim
        (λ (h : b < n). get_or-replicate n b 0 0 h)
        (λ (h : n ≤ b). get_or_past (replicate n 0) b 0 (rw (length-replicate {A = ℕ} n 0) h))
        (cases_lt b n)

    beyond : (k b : ℕ) → ◌≡◌ {A = ℕ} (get_or (get_or (replicate n 0 ∷ []) k []) b 0) 0
    beyond zero b = zeros b
    beyond (suc k) b = refl

    at : (a b : ℕ) → (a < length m) ⊎ (length m ≤ a) → get_or (get_or (m ++ (replicate n 0 ∷ [])) a []) b 0 ≡ get_or (get_or m a []) b 0
    at a b (inl h) = rw (get_or_append_left m (replicate n 0 ∷ []) [] a h)
    at a b (inr h) = rw (get_or-append_right m (replicate n 0 ∷ []) (length m) a [] refl h, get_or_past m a [] h) (beyond (a - length m) b)
