-- Of eight pages of 256 words the first n are granted: what they show, what a write makes of them, and one page more.
use Rattle.std.proofs.Common.{◌≡◌, ℕ, ◌+◌, ◌<◌, ◌≤◌, ltb, List, [], length, get_or, take, set, replicate, sym, ap, ◌∙◌, ⊎_elim, arith}
use lib.Seq.{take-set-lt}
use Rattle.std.proofs.lemmas.List.{length-take-le, get_or-take, get_or-set_same, get_or-set_other, take_more_set}
use Rattle.std.proofs.lemmas.Bool.{cases_eq, cases_lt, lt-ltb, le-ltb}
use Rattle.segments.specs.Memory.{segment, put, with_zeros}
use Rattle.segments.proofs.Places.{segment_past, length_at_there, length_at_missing, word_at_there, word_at_missing}
use Rattle.pages.specs.Paged.{Page, NoPage, Paged}

module _ (p : List (List ℕ)) (n : ℕ) (eight : length p ≡ 8) (few : n ≤ 8) (rows : (g : ℕ) → g < 8 → length (get_or p g []) ≡ 256) where
  page_count : length (take n p) ≡ n
  page_count = length-take-le n p (omega arith)

  page_is : (g : ℕ) → g < n → segment (take n p) g ≡ get_or p g []
  page_is g h = get_or-take n p g [] h

  page_put : (g w v : ℕ) → g < n → take n (set p g (set (get_or p g []) w v)) ≡ put (take n p) g w v
  page_put g w v h = take-set-lt n p g (set (get_or p g []) w v) h ∙ ap (λ s. set (take n p) g (set s w v)) (sym (page_is g h))

  page : (g : ℕ) → g < n → Page p n g
  page g h =
      let t = page_count in
      let e : length (segment (take n p) g) ≡ 256 = ap length (page_is g h) ∙ rows g (omega arith) in
      record {
        inside = omega arith;
        size = e;
        shows = length_at_there (take n p) g 256 (omega arith) e;
        reads = λ w l. word_at_there (take n p) g w (get_or (get_or p g []) w 0) (omega arith) (ap (λ s. get_or s w 0) (page_is g h));
        no_more = λ w l. word_at_missing (take n p) g w (omega arith);
        replaces = λ w v. page_put g w v h;
      }

  no_page : (g : ℕ) → n ≤ g → NoPage p n g
  no_page g h =
      let t = page_count in
      let e = segment_past (take n p) g (omega arith) in
      record {
        size = e;
        shows = length_at_missing (take n p) g (omega arith);
        reads = λ w. word_at_missing (take n p) g w (omega arith);
      }

  pub paged : (g : ℕ) → Paged (ltb g n) p n g
  paged g = ⊎_elim (λ h. rw (lt-ltb g n h) (page g h)) (λ h. rw (le-ltb g n h) (no_page g h)) (cases_lt g n)

  pub more_pages : n < 8 → take (n + 1) (set p n (replicate 256 0)) ≡ with_zeros (take n p) 256
  more_pages h = take_more_set p n (replicate 256 0) (omega arith)

  pub more_rows : (s : List ℕ) → length s ≡ 256 → (g : ℕ) → g < 8 → length (get_or (set p n s) g []) ≡ 256
  more_rows s e g h = ⊎_elim same (λ q. ap length (get_or-set_other p n g s [] q) ∙ rows g h) (cases_eq g n)
    where
      same : g ≡ n → length (get_or (set p n s) g []) ≡ 256
      same q = rw q (ap length (get_or-set_same p n s [] (omega arith)) ∙ e)
