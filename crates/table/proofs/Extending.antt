-- What is got stays got where more segments are still to come: so a call's allocations can be put together one after another.
use Rattle.std.proofs.Common.{◌≡◌, ℕ, ◌+◌, Bool, true, false, cond, eqb, ltb, leb, List, [], ◌∷◌, ◌++◌, length, refl}
use Rattle.table.specs.Segments.{allocated_in, left_in, first_fit}
use Rattle.table.specs.Placing.{Room, extend, Outcome, got, no_space, then, in_segment, grant, anywhere, place, pad, root}

-- f finds the same with more to come
abbrev pub Extends : {A : Type 0} → (Room → Outcome A) → Type 0
Extends {A} f = (r r' : Room) (a : A) (more_coming : List ℕ) → f r ≡ got r' a → f (extend r more_coming) ≡ got (extend r' more_coming) a

same_got : {A : Type 0} (q r : Room) (b a : A) (ds : List ℕ) → got q b ≡ got r a → got (extend q ds) b ≡ got (extend r ds) a
same_got q r b a ds e =
    let same : q ≡ r = cc in
    let same' : b ≡ a = cc in
    rw (same, same')

pub extends_got : {A : Type 0} (a : A) → Extends (λ r. got r a)
extends_got b r r' a ds e = same_got r r' b a ds e

pub extends_then : {A B : Type 0} (f : Room → Outcome A) (k : Room → A → Outcome B) → Extends f → ((a : A) → Extends (λ r. k r a)) →
    Extends (λ r. then (f r) (k))
extends_then f k hf hk r r' b ds = go (f r) refl
  where
    go : (o : Outcome _) → f r ≡ o → then o k ≡ got r' b → then (f (extend r ds)) k ≡ got (extend r' ds) b
    go (got q a) e h = rw (hf r q a ds e) (hk a q r' b ds h)
    go (no_space q m) e h = cc

pub extends_if : {A : Type 0} (t : Room → Bool) (f g : Room → Outcome A) → ((r : Room) (ds : List ℕ) → t (extend r ds) ≡ t r) → Extends f → Extends g →
    Extends (λ r. cond (t r) (f r) (g r))
extends_if t f g same hf hg r r' a ds h = rw (same r ds) (go (t r) h)
  where
    go : (b : Bool) → cond b (f r) (g r) ≡ got r' a → cond b (f (extend r ds)) (g (extend r ds)) ≡ got (extend r' ds) a
    go true h = hf r r' a ds h
    go false h = hg r r' a ds h

extends_in_segment : (s : Room → ℕ) (n : ℕ) → ((r : Room) (ds : List ℕ) → s (extend r ds) ≡ s r) → Extends (λ r. in_segment r (s r) n)
extends_in_segment s n same r r' p ds e = rw (same r ds) (same_got _ r' _ p ds e)

extends_grant : (n : ℕ) → Extends (λ r. grant r n r.coming)
extends_grant n r r' p ds = go r.coming
  where
    go : (cs : List ℕ) → grant r n cs ≡ got r' p → grant (extend r ds) n (cs ++ ds) ≡ got (extend r' ds) p
    go [] h = cc
    go (c ∷ cs) h = same_got _ r' _ p ds h

extends_none : (n : ℕ) → Extends {A = ℕ × ℕ} (λ r. no_space r n)
extends_none n r r' p ds h = cc

pub extends_anywhere : (n : ℕ) → Extends (λ r. anywhere r n)
unfolding anywhere
extends_anywhere n =
    extends_if (λ r. ltb (first_fit r.table n) (length r.table)) (λ r. in_segment r (first_fit r.table n) n)
    (λ r. cond (ltb (length r.table) 64) (grant r n r.coming) (no_space r n))
    (λ r ds. refl)
    (extends_in_segment (λ r. first_fit r.table n) n (λ r ds. refl))
    (extends_if (λ r. ltb (length r.table) 64) (λ r. grant r n r.coming) (λ r. no_space r n) (λ r ds. refl) (extends_grant n) (extends_none n))

pub extends_place : (g n : ℕ) → Extends (λ r. place r g n)
unfolding place
extends_place g n =
    extends_if (λ r. leb n (left_in r.table g)) (λ r. in_segment r g n) (λ r. then (anywhere r (n + 1)) (λ r' p. got r' (p.0, p.1 + 1)))
    (λ r ds. refl)
    (extends_in_segment (λ r. g) n (λ r ds. refl))
    (extends_then (λ r. anywhere r (n + 1)) (λ r' p. got r' (p.0, p.1 + 1)) (extends_anywhere (n + 1)) (λ p. extends_got (p.0, p.1 + 1)))

pub extends_pad : (g : ℕ) → Extends (λ r. pad r g)
unfolding pad
extends_pad g =
    extends_if (λ r. leb 1 (left_in r.table g)) (λ r. in_segment r g 1) (λ r. anywhere r 2) (λ r ds. refl)
    (extends_in_segment (λ r. g) 1 (λ r ds. refl))
    (extends_anywhere 2)

pub extends_root : Extends root
unfolding root
extends_root =
    extends_if (λ r. eqb (allocated_in r.table 0) 0) (λ r. anywhere r 1) (λ r. got r (0, 0)) (λ r ds. refl) (extends_anywhere 1) (extends_got (0, 0))
