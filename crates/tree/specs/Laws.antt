-- What is proved of edits on words. Each law is said of any path: `walk` finds the slot at its end, and `value_at` the value there.
use Rattle.std.specs.Prelude.{◌≡◌, ℕ, ◌+◌, ◌^◌, ◌<◌, ◌≤◌, ◌≢◌, List}
use Rattle.wire.specs.Pointers.{pointer_kind, high_half, pointer_target, re_aimed, unaimed, single_far, double_far, empty_struct}
use Rattle.tree.specs.Numbers.{place_put, place_bits, FitsPlace}
use Rattle.tree.specs.Value.{Shape, Value, null, object, rows, pointers, places, place_word, Step, Goes, value_at, put, change, blank}
use Rattle.tree.specs.Shows.{Memory, Landing, land, direct, way, Shows, walk}
use Rattle.tree.specs.Decode.{decode, Deep}
use Rattle.tree.specs.Extents.{WellLaid}
use Rattle.tree.specs.Edits.{Cleared, Beside, Behind, Renumbered, Laid, Transferred, Steady, fixed, slot_at, Opened, Closed}

pub record Laws : Type 0 where
  -- ## What words show

  -- a slot shows one value, and decoding finds it
  pub one_value : (H : Memory) (a b : ℕ → ℕ) (v u : Value) (g w : ℕ) → Shows H a g w v → Shows H b g w u → v ≡ u
  pub decoded : (H : Memory) (a : ℕ → ℕ) (v : Value) → Deep 64 v → WellLaid H a v → decode 64 H 0 0 ≡ v
  -- ## Edits at a path

  -- zero words with an allocated root word are the null tree
  pub begins : (H : Memory) (a : ℕ → ℕ) → 0 < a 0 → ((x y : ℕ) → H x y ≡ 0) → WellLaid H a null
  pub clears : (H H' : Memory) (a : ℕ → ℕ) (v : Value) (p : List Step) → Goes v p → WellLaid H a v →
      Cleared H H' (walk H 0 0 v p).0 (walk H 0 0 v p).1 (value_at v p) →
      WellLaid H' a (put v p null)
  -- a new object for a null slot, in the slot's segment and behind a landing pad
  pub inits_beside : (H H' : Memory) (a a' : ℕ → ℕ) (v : Value) (p : List Step) (t x : ℕ) (sh : Shape) →
      Goes v p → WellLaid H a v → value_at v p ≡ null →
      Beside H H' a a' (walk H 0 0 v p).0 (walk H 0 0 v p).1 t x sh →
      WellLaid H' a' (put v p (blank sh))
  pub inits_behind : (H H' : Memory) (a a' : ℕ → ℕ) (v : Value) (p : List Step) (s q x : ℕ) (sh : Shape) →
      Goes v p → WellLaid H a v → value_at v p ≡ null →
      Behind H H' a a' (walk H 0 0 v p).0 (walk H 0 0 v p).1 s q x sh →
      WellLaid H' a' (put v p (blank sh))
  -- the numbers of an object become others
  pub renumbers : (H H' : Memory) (a : ℕ → ℕ) (v : Value) (p : List Step) (sh : Shape) (dat dat' : ℕ → ℕ → ℕ) (kid : ℕ → ℕ → Value) →
      Goes v p → WellLaid H a v → value_at v p ≡ object sh dat kid →
      Renumbered H H' a (walk H 0 0 v p).0 (walk H 0 0 v p).1 sh dat' →
      WellLaid H' a (put v p (object sh dat' kid))
  -- the number at place k of row i becomes x, at every width, by one word
  pub writes : (H : Memory) (a : ℕ → ℕ) (v : Value) (p : List Step) (sh : Shape) (dat : ℕ → ℕ → ℕ) (kid : ℕ → ℕ → Value) (i k x : ℕ) →
      Goes v p → WellLaid H a v → value_at v p ≡ object sh dat kid → i < rows sh → k < places sh → FitsPlace sh x → 1 ≤ place_bits sh →
      let l = land H (walk H 0 0 v p).0 (walk H 0 0 v p).1 in
      WellLaid (change H l.seg (l.pos + place_word sh i k) (place_put sh (H l.seg (l.pos + place_word sh i k)) i x)) a
      (put v p (object sh (change dat i k x) kid))
  -- ## The ways in which a child gets from the slot (g, w) to the slot (G, W)

  pub moves_null : (H H' : Memory) (a : ℕ → ℕ) (g w G W : ℕ) → H' G W ≡ 0 → ((x y : ℕ) → (x ≡ G → y ≢ W) → H' x y ≡ H x y) →
      Transferred H H' a a g w G W 0 0 0 null
  pub copies_far : (H H' : Memory) (a : ℕ → ℕ) (g w G W : ℕ) (sh : Shape) (dat : ℕ → ℕ → ℕ) (kid : ℕ → ℕ → Value) →
      Steady H H' a a g w G W 0 0 0 (object sh dat kid) → way (H g w) ≢ direct → H' G W ≡ H g w →
      Transferred H H' a a g w G W 0 0 0 (object sh dat kid)
  pub aims_near : (H H' : Memory) (a a' : ℕ → ℕ) (g w W : ℕ) (sh : Shape) (dat : ℕ → ℕ → ℕ) (kid : ℕ → ℕ → Value) →
      Steady H H' a a' g w g W 0 0 0 (object sh dat kid) → pointer_kind (H g w) ≢ 2 → ((x : ℕ) → a' x < 2 ^ 29) →
      (pointer_kind (H g w) ≡ 0 → high_half (H g w) ≢ 0) → H' g W ≡ re_aimed (H g w) W (pointer_target w (H g w)) →
      Transferred H H' a a' g w g W 0 0 0 (object sh dat kid)
  pub moves_empty : (H H' : Memory) (a a' : ℕ → ℕ) (g w G W : ℕ) (sh : Shape) (dat : ℕ → ℕ → ℕ) (kid : ℕ → ℕ → Value) →
      Steady H H' a a' g w G W 0 0 0 (object sh dat kid) → ((x : ℕ) → a' x < 2 ^ 29) →
      pointer_kind (H g w) ≡ 0 → high_half (H g w) ≡ 0 → H' G W ≡ empty_struct →
      Transferred H H' a a' g w G W 0 0 0 (object sh dat kid)
  -- over a pad in word q of its own segment
  pub pads_once : (H H' : Memory) (a a' : ℕ → ℕ) (g w G W q : ℕ) (sh : Shape) (dat : ℕ → ℕ → ℕ) (kid : ℕ → ℕ → Value) →
      Steady H H' a a' g w G W g q 1 (object sh dat kid) → pointer_kind (H g w) ≢ 2 → ((x : ℕ) → a' x < 2 ^ 29) → q < a' g →
      H' G W ≡ single_far g q → H' g q ≡ re_aimed (H g w) q (pointer_target w (H g w)) →
      Transferred H H' a a' g w G W g q 1 (object sh dat kid)
  -- over two pad words from word q of segment s on
  pub pads_twice : (H H' : Memory) (a a' : ℕ → ℕ) (g w G W s q : ℕ) (sh : Shape) (dat : ℕ → ℕ → ℕ) (kid : ℕ → ℕ → Value) →
      Steady H H' a a' g w G W s q 2 (object sh dat kid) → pointer_kind (H g w) ≢ 2 → ((x : ℕ) → a' x < 2 ^ 29) → q + 1 < a' s →
      H' G W ≡ double_far s q → H' s q ≡ single_far g (pointer_target w (H g w)) → H' s (q + 1) ≡ unaimed (H g w) →
      Transferred H H' a a' g w G W s q 2 (object sh dat kid)
  -- ## An object is rebuilt in a larger shape: opened on new words, its children moved one by one, then closed

  pub opens : (H H' : Memory) (a a' : ℕ → ℕ) (v : Value) (p : List Step) (sh : Shape) (dat : ℕ → ℕ → ℕ) (kid : ℕ → ℕ → Value) (l : Landing) (sh' : Shape) →
      Goes v p → WellLaid H a v → value_at v p ≡ object sh dat kid → Opened H H' a a' l sh' →
      Laid H' a' (fixed H v p sh l sh') (rows sh) (pointers sh) (slot_at (land H (walk H 0 0 v p).0 (walk H 0 0 v p).1) sh) kid
  pub transfers : (H H' : Memory) (a a' : ℕ → ℕ) (base : ℕ → ℕ → ℕ) (r p : ℕ) (at : ℕ → ℕ → ℕ × ℕ) (kid : ℕ → ℕ → Value) (i j G W s q n : ℕ) →
      Laid H a base r p at kid → i < r → j < p → 1 ≤ base G W →
      ((k l : ℕ) → k < r → l < p → (at k l).0 ≡ G → (at k l).1 ≢ W) →
      Transferred H H' a a' (at i j).0 (at i j).1 G W s q n (kid i j) →
      Laid H' a' base r p (change at i j (G, W)) kid
  pub closes : (H H₁ H' : Memory) (a a' : ℕ → ℕ) (v : Value) (p : List Step) (sh : Shape) (dat : ℕ → ℕ → ℕ) (kid : ℕ → ℕ → Value) (l : Landing) (sh' : Shape) →
      Goes v p → WellLaid H a v → value_at v p ≡ object sh dat kid →
      Laid H₁ a' (fixed H v p sh l sh') (rows sh) (pointers sh) (slot_at l sh') kid →
      Closed H a v p sh dat l sh' H₁ H' a' →
      WellLaid H' a' (put v p (object sh' dat kid))
