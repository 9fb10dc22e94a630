-- The words behind the last segment: changing them leaves the segments, and an end behind them makes them a segment.
use Rattle.std.proofs.Common.{◌≡◌, ℕ, zero, suc, ◌+◌, ◌-◌, ◌<◌, ◌≤◌, List, [], ◌∷◌, ◌++◌, length, get_or, take, drop, replicate, refl, sym, ap, ◌∙◌, ap₂, arith}
use borrow.Rule.Slice.PartMut.{put_mid}
use Rattle.std.proofs.lemmas.Slice.{between_is, take-put_mid_below}
use Rattle.std.proofs.lemmas.List.{take-take}
use Rattle.segments.specs.Memory.{with_zeros}
use Rattle.word_slab.specs.Cuts.{Rises, used, cuts_from, cuts}
use Rattle.word_slab.proofs.Parts.{rises_tail, rises_begin}

-- where the last segment ends
abbrev last : ℕ → List ℕ → ℕ
last f es = get_or (f ∷ es) (length es) 0

-- the ends rise up to the last
rises_last : (f : ℕ) (es : List ℕ) (n : ℕ) → Rises f es n → (g : ℕ) → g < length es → (get_or (f ∷ es) g 0 ≤ get_or es g 0) × (get_or es g 0 ≤ last f es)
rises_last f [] n r g h = absurd (omega arith)
rises_last f (e ∷ es) n r zero h =
    let p = r zero h in
    (p.0, (rises_begin e es n (length es) p.1 (rises_tail f e es n r) (omega arith)).0)
rises_last f (e ∷ es) n r (suc g) h = rises_last e es n (rises_tail f e es n r) g (omega arith)

-- words that are the same up to the last end
same : (w w' : List ℕ) (f : ℕ) (es : List ℕ) (u : ℕ) → Rises f es u → take u w' ≡ take u w → cuts_from w' f es ≡ cuts_from w f es
same w w' f [] u r t = refl
same w w' f (e ∷ es) u r t =
    let l = (r zero (omega arith)).1 in
    ap₂ (λ x y. x ∷ y)
    (between_is w' f e ∙ ap (drop f) (sym (take-take e u w' l) ∙ ap (take e) t ∙ take-take e u w l) ∙ sym (between_is w f e))
    (same w w' e es u (rises_tail f e es u r) t)

-- a write behind the last end
pub cuts_cleared : (w es ys : List ℕ) (a k : ℕ) → Rises 0 es (length w) → a ≡ used es → a ≤ length w → cuts (put_mid a k w ys) es ≡ cuts w es
cuts_cleared w es ys a k r e h = same w (put_mid a k w ys) 0 es (used es) (rises_last 0 es (length w) r) (take-put_mid_below a k w ys (used es) (omega arith) h)

cuts_from_more : (w : List ℕ) (f : ℕ) (es : List ℕ) (end : ℕ) → cuts_from w f (es ++ (end ∷ [])) ≡ cuts_from w f es ++ (take (end - last f es) (drop (last f es) w) ∷ [])
cuts_from_more w f [] end = refl
cuts_from_more w f (e ∷ es) end = ap (λ m. take (e - f) (drop f w) ∷ m) (cuts_from_more w e es end)

-- one segment more, of c zero words
pub cuts_more : (w es es' : List ℕ) (c u : ℕ) → es' ≡ es ++ ((u + c) ∷ []) → u ≡ used es → take c (drop (used es) w) ≡ replicate c 0 → cuts w es' ≡ with_zeros (cuts w es) c
cuts_more w es es' c u g e z =
    let l = used es in
    let d : u + c - l ≡ c = omega arith in
    ap (cuts w) g ∙ cuts_from_more w 0 es (u + c) ∙ ap (λ x. cuts w es ++ (x ∷ [])) (ap (λ k. take k (drop l w)) d ∙ z)
