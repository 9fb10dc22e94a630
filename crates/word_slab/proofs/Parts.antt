-- Segments cut one after another: how long each is, which of the words it has, and what a write among the words makes of it.
use Rattle.std.proofs.Common.{◌≡◌, ℕ, zero, suc, ◌+◌, ◌-◌, ◌^◌, ◌<◌, ◌≤◌, List, [], ◌∷◌, length, get_or, take, drop, set, refl, ap, ◌∙◌, ap₂, arith}
use lib.Seq.{take-set-lt}
use Rattle.std.proofs.lemmas.List.Edits.{length-between, get_or-between}
use Rattle.std.proofs.lemmas.List.{get_or_default, take-set-le, drop-set-lt, drop-set-add}
use Rattle.segments.specs.Memory.{segment, put}
use Rattle.segments.proofs.Places.{segment_past, length_at_there, length_at_missing, word_at_there, word_at_missing}
use Rattle.word_slab.specs.Cuts.{Rises, begin, cuts_from, cuts, Lies, Lacks, Spans, Missing}

pub rises_tail : (f e : ℕ) (es : List ℕ) (n : ℕ) → Rises f (e ∷ es) n → Rises e es n
rises_tail f e es n r = λ g h. r (suc g) (omega arith)

-- segment g begins between the first place and the number of words
pub rises_begin : (f : ℕ) (es : List ℕ) (n g : ℕ) → f ≤ n → Rises f es n → g ≤ length es → (f ≤ get_or (f ∷ es) g 0) × (get_or (f ∷ es) g 0 ≤ n)
rises_begin f es n zero l r h = (omega arith, l)
rises_begin f [] n (suc g) l r h = absurd (omega arith)
rises_begin f (e ∷ es) n (suc g) l r h =
    let p = r zero (omega arith) in
    let q = rises_begin e es n g p.1 (rises_tail f e es n r) (omega arith) in
    (omega arith, q.1)

pub length-cuts_from : (w : List ℕ) (f : ℕ) (es : List ℕ) → length (cuts_from w f es) ≡ length es
length-cuts_from w f [] = refl
length-cuts_from w f (e ∷ es) = let q = length-cuts_from w e es in omega arith

pub cuts_length : (w es : List ℕ) → length (cuts w es) ≡ length es
cuts_length w es = length-cuts_from w 0 es

segment_is : (w : List ℕ) (f : ℕ) (es : List ℕ) (g : ℕ) → g < length es → segment (cuts_from w f es) g ≡ take (get_or es g 0 - get_or (f ∷ es) g 0) (drop (get_or (f ∷ es) g 0) w)
segment_is w f [] g h = absurd (omega arith)
segment_is w f (e ∷ es) zero h = refl
segment_is w f (e ∷ es) (suc g) h = segment_is w e es g (omega arith)

-- a write before the first segment
set_before : (w : List ℕ) (f : ℕ) (es : List ℕ) (n p v : ℕ) → Rises f es n → p < f → cuts_from (set w p v) f es ≡ cuts_from w f es
set_before w f [] n p v r h = refl
set_before w f (e ∷ es) n p v r h =
    let q = r zero (omega arith) in
    ap₂ (λ x y. x ∷ y) (ap (take (e - f)) (drop-set-lt f w p v h)) (set_before w e es n p v (rises_tail f e es n r) (omega arith))

-- a write behind a segment
set_behind : (w : List ℕ) (f e p v : ℕ) → f ≤ e → e ≤ p → take (e - f) (drop f (set w p v)) ≡ take (e - f) (drop f w)
set_behind w f e p v h k =
    let q : p ≡ f + (p - f) = omega arith in
    ap (λ x. take (e - f) (drop f (set w x v))) q ∙ ap (take (e - f)) (drop-set-add f w (p - f) v) ∙ take-set-le (e - f) (drop f w) (p - f) v (omega arith)

-- a write at the place of a word
put_at : (w : List ℕ) (f : ℕ) (es : List ℕ) (n g i v : ℕ) → Rises f es n → g < length es → i < get_or es g 0 - get_or (f ∷ es) g 0 → cuts_from (set w (get_or (f ∷ es) g 0 + i) v) f es ≡ put (cuts_from w f es) g i v
put_at w f [] n g i v r h l = absurd (omega arith)
put_at w f (e ∷ es) n zero i v r h l =
    ap₂ (λ x y. x ∷ y) (ap (take (e - f)) (drop-set-add f w i v) ∙ take-set-lt (e - f) (drop f w) i v l) (set_before w e es n (f + i) v (rises_tail f e es n r) (omega arith))
put_at w f (e ∷ es) n (suc g) i v r h l =
    let p = r zero (omega arith) in
    let t = rises_tail f e es n r in
    let q = rises_begin e es n g p.1 t (omega arith) in
    ap₂ (λ x y. x ∷ y) (set_behind w f e (get_or (e ∷ es) g 0 + i) v p.0 (omega arith)) (put_at w e es n g i v t (omega arith) l)

module _ (w es : List ℕ) (rising : Rises 0 es (length w)) where
  inside : (g : ℕ) → g < length es → get_or es g 0 ≤ length w
  inside g h = (rising g h).1

  segment_length : (g : ℕ) → g < length es → length (segment (cuts w es) g) ≡ get_or es g 0 - begin es g
  segment_length g h = ap length (segment_is w 0 es g h) ∙ length-between w (begin es g) (get_or es g 0) (inside g h)

  segment_word : (g i : ℕ) → g < length es → i < get_or es g 0 - begin es g → get_or (segment (cuts w es) g) i 0 ≡ get_or w (begin es g + i) 0
  segment_word g i h l = ap (λ s. get_or s i 0) (segment_is w 0 es g h) ∙ get_or-between w (begin es g) (get_or es g 0) i 0 (omega arith)

  lies : (g i : ℕ) → g < length es → i < get_or es g 0 - begin es g → Lies w es g i (begin es g + i)
  lies g i h l =
      let e = segment_length g h in
      let f = inside g h in
      record {
        there = omega arith;
        within = omega arith;
        shows = word_at_there (cuts w es) g i (get_or w (begin es g + i) 0) (omega arith) (segment_word g i h l);
        replaces = λ v. put_at w 0 es (length w) g i v rising h l;
      }

  lacks : (g i : ℕ) → length (segment (cuts w es) g) ≤ i → Lacks w es g i
  lacks g i h = record { beyond = h; shows = word_at_missing (cuts w es) g i h }

  spans_at : (g : ℕ) → g < length es → get_or es g 0 < 2 ^ 64 → Spans w es g (begin es g) (get_or es g 0 - begin es g)
  spans_at g h b =
      let e = segment_length g h in
      let r = rising g h in
      let f = cuts_length w es in
      record {
        shows = length_at_there (cuts w es) g (get_or es g 0 - begin es g) (omega arith) e;
        counts = omega arith;
        words_there = λ i l. lies g i h l;
        no_more = λ i l. lacks g i (omega arith);
      }

  -- segment g is there, with what is read of its end
  pub spans : (g end from : ℕ) → g < length es → end ≡ get_or es g end → end < 2 ^ 64 → from ≡ begin es g → Spans w es g from (end - from)
  spans g end from h r b e =
      let t : end ≡ get_or es g 0 = r ∙ get_or_default es g end 0 h in
      let l : get_or es g 0 < 2 ^ 64 = omega arith in
      rw (t, e) (spans_at g h l)

  -- there is no segment g
  pub missing : (g : ℕ) → length es ≤ g → Missing w es g
  missing g h =
      let f = cuts_length w es in
      let z = segment_past (cuts w es) g (omega arith) in
      record { shows = length_at_missing (cuts w es) g (omega arith); no_words = λ i. lacks g i (omega arith) }
