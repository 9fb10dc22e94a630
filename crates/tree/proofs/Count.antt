-- Sums, and the words of an extent.
use Rattle.std.proofs.Common.{◌≡◌, ℕ, zero, suc, ◌+◌, ◌<◌, ◌≤◌, Bool, true, false, cond, ◌&&◌, eqb, ltb, leb, ◌≢◌, ◌⊎◌, refl, ◌∙◌, ap₂, inl, inr, ⊎_elim, arith}
use Rattle.std.proofs.lemmas.Bool.{eqb-true, leb-true, ltb-true, cases_lt, cases_eq, eq-eqb, le-leb, lt-ltb, and_parts}
use Rattle.tree.specs.Shows.{within, total, totals}

-- ## An extent's words

pub within_le : (g s n x y : ℕ) → within g s n x y ≤ 1
unfolding within
within_le g s n x y = go (eqb x g && (leb s y && ltb y (s + n)))
  where
    go : (b : Bool) → cond b 1 0 ≤ 1
    go true = omega arith
    go false = omega arith

pub within_in : (g s n x y : ℕ) → x ≡ g → s ≤ y → y < s + n → within g s n x y ≡ 1
unfolding within
within_in g s n x y p q r = rw (eq-eqb x g p, le-leb s y q, lt-ltb y (s + n) r)

pub within_from : (g s n x y : ℕ) → 1 ≤ within g s n x y → (x ≡ g) × (s ≤ y) × (y < s + n)
unfolding within
within_from g s n x y h = go (eqb x g && (leb s y && ltb y (s + n))) refl h
  where
    go : (b : Bool) → (eqb x g && (leb s y && ltb y (s + n))) ≡ b → 1 ≤ cond b 1 0 → (x ≡ g) × (s ≤ y) × (y < s + n)
    go true e k =
        let p = and_parts (eqb x g) (leb s y && ltb y (s + n)) e in
        let q = and_parts (leb s y) (ltb y (s + n)) p.1 in
        (eqb-true x g p.0, leb-true s y q.0, ltb-true y (s + n) q.1)
    go false e k = absurd (omega arith)

-- both at once: what omega takes apart
pub within_cases : (g s n x y : ℕ) → ((within g s n x y ≡ 1) × (x ≡ g) × (s ≤ y) × (y < s + n)) ⊎ (within g s n x y ≡ 0)
within_cases g s n x y = go (cases_lt 0 (within g s n x y))
  where
    go : (0 < within g s n x y) ⊎ (within g s n x y ≤ 0) → ((within g s n x y ≡ 1) × (x ≡ g) × (s ≤ y) × (y < s + n)) ⊎ (within g s n x y ≡ 0)
    go (inl h) = let f = within_from g s n x y h in inl (omega (arith, within_le g s n x y), f.0, f.1, f.2)
    go (inr h) = inr (omega arith)

-- the same with what fails in the other case: `omega` decides from these alone what holds of several extents
pub within_view : (g s n x y : ℕ) →
    ((within g s n x y ≡ 1) × (x ≡ g) × (s ≤ y) × (y < s + n)) ⊎ ((within g s n x y ≡ 0) × ((x ≢ g) ⊎ ((y < s) ⊎ (s + n ≤ y))))
within_view g s n x y = go (within_cases g s n x y)
  where
    out : within g s n x y ≡ 0 → (x ≢ g) ⊎ ((y < s) ⊎ (s + n ≤ y))
    out h =
        ⊎_elim
        (λ (e : x ≡ g).
        inr
        (⊎_elim
        (λ (k : y < s). inl k)
        (λ (k : s ≤ y).
        ⊎_elim (λ (l : y < s + n). absurd (omega (arith, h, within_in g s n x y e k l))) (λ (l : s + n ≤ y). inr l) (cases_lt y (s + n)))
        (cases_lt y s)))
        (λ (e : x ≡ g → ⊥). inl e)
        (cases_eq x g)

    go : ((within g s n x y ≡ 1) × (x ≡ g) × (s ≤ y) × (y < s + n)) ⊎ (within g s n x y ≡ 0) →
        ((within g s n x y ≡ 1) × (x ≡ g) × (s ≤ y) × (y < s + n)) ⊎ ((within g s n x y ≡ 0) × ((x ≢ g) ⊎ ((y < s) ⊎ (s + n ≤ y))))
    go (inl h) = inl h
    go (inr h) = inr (h, out h)

pub within_none : (g s x y : ℕ) → within g s 0 x y ≡ 0
within_none g s x y = omega (arith, within_cases g s 0 x y)

-- ## Sums

pub total_ext : (n : ℕ) (f h : ℕ → ℕ) → ((i : ℕ) → i < n → f i ≡ h i) → total n f ≡ total n h
unfolding total
total_ext zero f h e = refl
total_ext (suc n) f h e = ap₂ ◌+◌ (total_ext n f h (λ i k. e i (omega arith))) (e n (omega arith))

pub total_zero : (n : ℕ) (f : ℕ → ℕ) → ((i : ℕ) → i < n → f i ≡ 0) → total n f ≡ 0
unfolding total
total_zero zero f e = refl
total_zero (suc n) f e = omega (arith, total_zero n f (λ i k. e i (omega arith)), e n (omega arith))

pub total_term : (n : ℕ) (f : ℕ → ℕ) (i : ℕ) → i < n → f i ≤ total n f
unfolding total
total_term zero f i h = absurd (omega arith)
total_term (suc n) f i h =
    ⊎_elim (λ (e : i ≡ n). rw e (omega arith)) (λ (e : i ≡ n → ⊥). omega (arith, total_term n f i (omega arith))) (cases_eq i n)

-- a change at one index
pub total_change : (n : ℕ) (f h : ℕ → ℕ) (i : ℕ) → i < n → ((k : ℕ) → k < n → k ≢ i → h k ≡ f k) → total n h + f i ≡ total n f + h i
unfolding total
total_change zero f h i k e = absurd (omega arith)
total_change (suc n) f h i k e =
    ⊎_elim
    (λ (q : i ≡ n). rw q (omega (arith, total_ext n h f (λ j l. e j (omega arith) (omega arith)))))
    (λ (q : i ≡ n → ⊥).
    omega (arith, total_change n f h i (omega arith) (λ j l. e j (omega arith)), e n (omega arith) (omega arith)))
    (cases_eq i n)

pub total_add : (n : ℕ) (f h : ℕ → ℕ) → total n (λ i. f i + h i) ≡ total n f + total n h
unfolding total
total_add zero f h = refl
total_add (suc n) f h = omega (arith, total_add n f h)

pub total_pos : (n : ℕ) (f : ℕ → ℕ) → 1 ≤ total n f → (i : ℕ) × (i < n) × (1 ≤ f i)
unfolding total
total_pos zero f h = absurd (omega arith)
total_pos (suc n) f h =
    ⊎_elim
    (λ (q : 0 < f n). (n, omega arith, q))
    (λ (q : f n ≤ 0). let (i, l, p) = total_pos n f (omega arith) in (i, omega arith, p))
    (cases_lt 0 (f n))

-- ## Sums over rows and pointers

pub totals_ext : (r p : ℕ) (f h : ℕ → ℕ → ℕ) → ((i j : ℕ) → i < r → j < p → f i j ≡ h i j) → totals r p f ≡ totals r p h
totals_ext r p f h e = total_ext r (λ i. total p (f i)) (λ i. total p (h i)) (λ i k. total_ext p (f i) (h i) (λ j l. e i j k l))

pub totals_zero : (r p : ℕ) (f : ℕ → ℕ → ℕ) → ((i j : ℕ) → i < r → j < p → f i j ≡ 0) → totals r p f ≡ 0
totals_zero r p f e = total_zero r (λ i. total p (f i)) (λ i k. total_zero p (f i) (λ j l. e i j k l))

pub totals_term : (r p : ℕ) (f : ℕ → ℕ → ℕ) (i j : ℕ) → i < r → j < p → f i j ≤ totals r p f
totals_term r p f i j hi hj = omega (arith, total_term r (λ i. total p (f i)) i hi, total_term p (f i) j hj)

pub totals_change : (r p : ℕ) (f h : ℕ → ℕ → ℕ) (i j : ℕ) → i < r → j < p →
    ((a b : ℕ) → a < r → b < p → (a ≡ i → b ≡ j → ⊥) → h a b ≡ f a b) → totals r p h + f i j ≡ totals r p f + h i j
totals_change r p f h i j hi hj e =
    omega (
      arith,
      total_change r (λ i. total p (f i)) (λ i. total p (h i)) i hi (λ k l n. total_ext p (h k) (f k) (λ b m. e k b l m (λ q _. n q))),
      total_change p (f i) (h i) j hj (λ b l n. e i b hi l (λ _ q. n q)),
    )

pub totals_add : (r p : ℕ) (f h : ℕ → ℕ → ℕ) → totals r p (λ i j. f i j + h i j) ≡ totals r p f + totals r p h
totals_add r p f h =
    total_ext r (λ i. total p (λ j. f i j + h i j)) (λ i. total p (f i) + total p (h i)) (λ i k. total_add p (f i) (h i))
    ∙ total_add r (λ i. total p (f i)) (λ i. total p (h i))

pub totals_pos : (r p : ℕ) (f : ℕ → ℕ → ℕ) → 1 ≤ totals r p f → (i : ℕ) × (j : ℕ) × (i < r) × (j < p) × (1 ≤ f i j)
totals_pos r p f h =
    let (i, l, q) = total_pos r (λ i. total p (f i)) h in
    let (j, m, z) = total_pos p (f i) q in
    (i, j, l, m, z)
