-- Single segments and words of a list of segments, there and missing.
use Rattle.std.proofs.Common.{◌≡◌, ℕ, ◌<◌, ◌≤◌, ltb, List, [], length, Some, None, Option, unwrap_or, sym, refl, ap, ◌∙◌, ⊎_elim}
use Rattle.std.proofs.lemmas.List.{get_or_past}
use Rattle.std.proofs.lemmas.Bool.{cond-true, cond-false, lt-ltb, le-ltb, cases_lt}
use Rattle.segments.specs.Memory.{segment, word, length_at, word_at}

-- a segment that is there
pub length_at_there : (m : List (List ℕ)) (g n : ℕ) → g < length m → length (segment m g) ≡ n → Some n ≡ length_at m g
length_at_there m g n h e = sym (cond-true (ltb g (length m)) (Some (length (segment m g))) None (lt-ltb g (length m) h) ∙ ap Some e)

-- a segment that is missing
pub length_at_missing : (m : List (List ℕ)) (g : ℕ) → length m ≤ g → None ≡ length_at m g
length_at_missing m g h = sym (cond-false (ltb g (length m)) (Some (length (segment m g))) None (le-ltb g (length m) h))

-- a word that is there
pub word_at_there : (m : List (List ℕ)) (g w v : ℕ) → w < length (segment m g) → word m g w ≡ v → Some v ≡ word_at m g w
word_at_there m g w v h e = sym (cond-true (ltb w (length (segment m g))) (Some (word m g w)) None (lt-ltb w (length (segment m g)) h) ∙ ap Some e)

-- a word that is missing
pub word_at_missing : (m : List (List ℕ)) (g w : ℕ) → length (segment m g) ≤ w → None ≡ word_at m g w
word_at_missing m g w h = sym (cond-false (ltb w (length (segment m g))) (Some (word m g w)) None (le-ltb w (length (segment m g)) h))

-- a missing segment has no words
pub segment_past : (m : List (List ℕ)) (g : ℕ) → length m ≤ g → length (segment m g) ≡ 0
segment_past m g h = ap length (get_or_past m g [] h)

-- the length that is answered, with 0 for a missing segment
pub length_at_or : (m : List (List ℕ)) (g : ℕ) → unwrap_or (length_at m g) 0 ≡ length (segment m g)
length_at_or m g =
    ⊎_elim
    (λ h. ap (λ o. unwrap_or o 0) (sym (length_at_there m g (length (segment m g)) h refl)))
    (λ h. ap (λ o. unwrap_or o 0) (sym (length_at_missing m g h)) ∙ sym (segment_past m g h))
    (cases_lt g (length m))

-- the word that is answered, with 0 for a missing one
pub word_at_or : (m : List (List ℕ)) (g w : ℕ) → unwrap_or (word_at m g w) 0 ≡ word m g w
word_at_or m g w =
    ⊎_elim
    (λ h. ap (λ o. unwrap_or o 0) (sym (word_at_there m g w (word m g w) h refl)))
    (λ h. ap (λ o. unwrap_or o 0) (sym (word_at_missing m g w h)) ∙ sym (get_or_past (segment m g) w 0 h))
    (cases_lt w (length (segment m g)))

-- what `length(g).unwrap_or(0)` and `read(g, w).unwrap_or(0)` answer
pub length_answered : (m : List (List ℕ)) (g n : ℕ) (o : Option ℕ) → o ≡ length_at m g → n ≡ unwrap_or o 0 → n ≡ length (segment m g)
length_answered m g n o e h = h ∙ ap (λ x. unwrap_or x 0) e ∙ length_at_or m g

pub word_answered : (m : List (List ℕ)) (g w v : ℕ) (o : Option ℕ) → o ≡ word_at m g w → v ≡ unwrap_or o 0 → v ≡ word m g w
word_answered m g w v o e h = h ∙ ap (λ x. unwrap_or x 0) e ∙ word_at_or m g w
