-- A path is walked step by step.
use Rattle.std.proofs.Common.{◌≡◌, ℕ, ◌+◌, ◌≢◌, List, [], ◌∷◌, ◌++◌, sym, refl, ap}
use Rattle.tree.specs.Value.{Value, null, object, slot, Step, Goes, value_at}
use Rattle.tree.specs.Shows.{Memory, land, Shows, walk}
use Rattle.tree.specs.Decode.{shape_at}
use Rattle.tree.proofs.Roads.{paved_live}
use Rattle.tree.proofs.Decoding.{describes_shape}

pub value_at_append : (p q : List Step) (v : Value) → Goes v p → value_at v (p ++ q) ≡ value_at (value_at v p) q
value_at_append [] q v go = refl
value_at_append (s ∷ p) q null go = absurd go
value_at_append (s ∷ p) q (object sh dat kid) go = value_at_append p q (kid s.element s.pointer_number) go.1

pub walk_append : (H : Memory) (p q : List Step) (v : Value) (g w : ℕ) → Goes v p →
    walk H g w v (p ++ q) ≡ walk H (walk H g w v p).0 (walk H g w v p).1 (value_at v p) q
walk_append H [] q v g w go = refl
walk_append H (s ∷ p) q null g w go = absurd go
walk_append H (s ∷ p) q (object sh dat kid) g w go =
    walk_append H p q (kid s.element s.pointer_number) (land H g w).seg ((land H g w).pos + slot sh s.element s.pointer_number) go.1

pub goes_append : (p q : List Step) (v : Value) → Goes v p → Goes (value_at v p) q → Goes v (p ++ q)
goes_append [] q v go h = h
goes_append (s ∷ p) q null go h = absurd go
goes_append (s ∷ p) q (object sh dat kid) go h = (go.0, goes_append p q (kid s.element s.pointer_number) go.1 h)

pub goes_front : (p q : List Step) (v : Value) → Goes v (p ++ q) → Goes v p × Goes (value_at v p) q
goes_front [] q v go = (tt, go)
goes_front (s ∷ p) q null go = absurd go
goes_front (s ∷ p) q (object sh dat kid) go =
    let h = goes_front p q (kid s.element s.pointer_number) go.1 in
    ((go.0, h.0), h.1)

-- what a slot's word tells: null, or an object of the shape that the words give
pub shows_null : (H : Memory) (a : ℕ → ℕ) (g w : ℕ) (v : Value) → Shows H a g w v → H g w ≡ 0 → v ≡ null
shows_null H a g w null s e = refl
shows_null H a g w (object sh dat kid) s e = absurd (paved_live H g w s.0 e)

pub shows_object : (H : Memory) (a : ℕ → ℕ) (g w : ℕ) (v : Value) → Shows H a g w v → H g w ≢ 0 →
    (dat : ℕ → ℕ → ℕ) × (kid : ℕ → ℕ → Value) × (v ≡ object (shape_at H (land H g w)) dat kid)
shows_object H a g w null s n = absurd (n s)
shows_object H a g w (object sh dat kid) s n =
    (dat, kid, ap (λ z. object z dat kid) (sym (describes_shape (land H g w).said (H (land H g w).seg (land H g w).pos) sh s.1.described)))
