-- Moving an object's children in rising order: the steps of the loop.
use Rattle.std.proofs.Common.{◌≡◌, ℕ, ◌+◌, ◌<◌, ◌≤◌, true, false, ◌⊎◌, List, sym, ap, ◌∙◌, subst, ⊎_elim, arith}
use Rattle.tree.specs.Value.{Shape, Value, rows, pointers, slot, Step, change}
use Rattle.tree.specs.Shows.{span, Memory, Landing, land, within, walk}
use Rattle.tree.specs.Edits.{Laid, Transferred, fixed, slot_at}
use Rattle.tree.specs.Loops.{before, pick}
use Rattle.tree.proofs.Count.{within_in}
use Rattle.tree.proofs.Shapes.{slot_in, slot_apart}
use Rattle.tree.proofs.Frame.{slot_within}
use Rattle.tree.proofs.Index.{before_cases, pick_done, pick_left, pick_here, pick_next, pick_row, pick_start, pick_end}
use Rattle.tree.proofs.Moves.{transfer}
use Rattle.tree.proofs.Relocate.{laid_ext}

module _ (H₀ : Memory) (v : Value) (p : List Step) (sh : Shape) (l : Landing) (sh' : Shape) (kid : ℕ → ℕ → Value)
    (more_rows : rows sh ≤ rows sh') (more_pointers : pointers sh ≤ pointers sh') where
  abbrev old : Landing
  old = land H₀ (walk H₀ 0 0 v p).0 (walk H₀ 0 0 v p).1

  -- the children before (i, j) have moved
  abbrev pub Moving : Memory → (ℕ → ℕ) → ℕ → ℕ → Type 0
  Moving H a i j = Laid H a (fixed H₀ v p sh l sh') (rows sh) (pointers sh) (pick i j (slot_at l sh') (slot_at (land H₀ (walk H₀ 0 0 v p).0 (walk H₀ 0 0 v p).1) sh)) kid

  pub moving_start : (H : Memory) (a : ℕ → ℕ) → Laid H a (fixed H₀ v p sh l sh') (rows sh) (pointers sh) (slot_at old sh) kid → Moving H a 0 0
  moving_start H a ok =
      laid_ext H a (fixed H₀ v p sh l sh') (rows sh) (pointers sh) (slot_at old sh) (pick 0 0 (slot_at l sh') (slot_at old sh)) kid
      (λ i j _ _. pick_start (slot_at l sh') (slot_at old sh) i j)
      ok

  pub moving_end : (H : Memory) (a : ℕ → ℕ) → Moving H a (rows sh) 0 → Laid H a (fixed H₀ v p sh l sh') (rows sh) (pointers sh) (slot_at l sh') kid
  moving_end H a ok =
      laid_ext H a (fixed H₀ v p sh l sh') (rows sh) (pointers sh) (pick (rows sh) 0 (slot_at l sh') (slot_at old sh)) (slot_at l sh') kid
      (λ i j hi _. sym (pick_end (slot_at l sh') (slot_at old sh) (rows sh) i j hi))
      ok

  pub moving_row : (H : Memory) (a : ℕ → ℕ) (i : ℕ) → Moving H a i (pointers sh) → Moving H a (i + 1) 0
  moving_row H a i ok =
      laid_ext H a (fixed H₀ v p sh l sh') (rows sh) (pointers sh) (pick i (pointers sh) (slot_at l sh') (slot_at old sh)) (pick (i + 1) 0 (slot_at l sh') (slot_at old sh)) kid
      (λ k m _ hm. sym (pick_row (slot_at l sh') (slot_at old sh) i (pointers sh) k m hm))
      ok

  -- the old and the new object have no word in common
  objects_apart : (H : Memory) (a : ℕ → ℕ) (i j : ℕ) → Moving H a i j → (x y : ℕ) → within old.seg old.pos (span old.said sh) x y + within l.seg l.pos (span l.said sh') x y ≤ 1
  objects_apart H a i j ok x y = omega (arith, ok.once x y)

  pub moving_next : (H H' : Memory) (a a' : ℕ → ℕ) (i j s q n : ℕ) → i < rows sh → j < pointers sh → Moving H a i j →
      Transferred H H' a a' old.seg (old.pos + slot sh i j) l.seg (l.pos + slot sh' i j) s q n (kid i j) → Moving H' a' i (j + 1)
  moving_next H H' a a' i j s q n hi hj ok c =
      let at = pick i j (slot_at l sh') (slot_at old sh) in
      let here : at i j ≡ slot_at old sh i j = pick_here (slot_at l sh') (slot_at old sh) i j in
      let new : 1 ≤ within l.seg l.pos (span l.said sh') l.seg (l.pos + slot sh' i j) =
      omega (arith, slot_within l.seg l.pos l.said sh' i j (omega arith) (omega arith)) in
      laid_ext H' a' (fixed H₀ v p sh l sh') (rows sh) (pointers sh) (change at i j (l.seg, l.pos + slot sh' i j)) (pick i (j + 1) (slot_at l sh') (slot_at old sh)) kid
      (λ k m _ _. pick_next (slot_at l sh') (slot_at old sh) i j k m)
      (transfer H H' a a' (fixed H₀ v p sh l sh') (rows sh) (pointers sh) at kid ok i j hi hj l.seg (l.pos + slot sh' i j) s q n
      (omega (arith, new))
      (λ k m hk hm e f.
      ⊎_elim
      (λ (d : (before i j k m ≡ true) × ((k < i) ⊎ ((k ≡ i) × (m < j)))).
      moved_apart k m hk hm d.1
      (sym (ap (λ z. z.1) (pick_done (slot_at l sh') (slot_at old sh) i j k m d.0)) ∙ f))
      (λ (d : (before i j k m ≡ false) × ((i < k) ⊎ ((k ≡ i) × (j ≤ m)))).
      let e' : old.seg ≡ l.seg = sym (ap (λ z. z.0) (pick_left (slot_at l sh') (slot_at old sh) i j k m d.0)) ∙ e in
      let f' : old.pos + slot sh k m ≡ l.pos + slot sh' i j = sym (ap (λ z. z.1) (pick_left (slot_at l sh') (slot_at old sh) i j k m d.0)) ∙ f in
      omega (
        arith,
        objects_apart H a i j ok l.seg (l.pos + slot sh' i j),
        new,
        within_in old.seg old.pos (span old.said sh) l.seg (l.pos + slot sh' i j) (sym e') (omega (arith, f')) (omega (arith, f', slot_in sh k m hk hm)),
      ))
      (before_cases i j k m))
      (subst (λ z. Transferred H H' a a' z.0 z.1 l.seg (l.pos + slot sh' i j) s q n (kid i j)) (sym here) c))
    where
      moved_apart : (k m : ℕ) → k < rows sh → m < pointers sh → (k < i) ⊎ ((k ≡ i) × (m < j)) → l.pos + slot sh' k m ≡ l.pos + slot sh' i j → ⊥
      moved_apart k m hk hm o e =
          let s = slot_apart sh' k m i j (omega arith) (omega arith) (omega arith) (omega arith) (omega arith) in
          ⊎_elim (λ (d : k < i). omega (arith, s.0)) (λ (d : (k ≡ i) × (m < j)). omega (arith, s.1, d.1)) o
