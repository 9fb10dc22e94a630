-- What an accepted call has passed.
use Rattle.std.proofs.Common.{◌≡◌, ℕ, zero, suc, ◌+◌, ◌<◌, ◌≤◌, Bool, true, false, cond, ltb, List, [], ◌∷◌, length, refl, arith}
use Rattle.std.proofs.lemmas.Bool.{le-ltb, ltb-false, ltb-true, eqb-true, and_parts}
use Rattle.std.proofs.lemmas.Bool.Decides.{nat_tests}
use Rattle.tree.specs.Value.{Value, null, object, Step, Goes, value_at}
use Rattle.law.specs.Calls.{Call, refused, nowhere}
use Rattle.law.specs.Machine.{meets, went, bad_path, fine, wrong, verdict, judge_path, judge, objection, makes_too_large, making}

-- ## The parts of a path's judgment

-- a path whose steps all go
went_goes : (p : List Step) (v : Value) → ltb (went v p) (length p) ≡ false → Goes v p
went_goes [] v h = tt
went_goes (s ∷ p) null h = let k : suc (length p) ≤ 0 = ltb-false 0 (suc (length p)) h in omega arith
went_goes (s ∷ p) (object sh dat kid) h = go (meets sh s) refl h (went_goes p (kid s.element s.pointer_number))
  where
    n : ℕ
    n = went (kid s.element s.pointer_number) p

    go : (b : Bool) → meets sh s ≡ b → ltb (cond b (1 + n) 0) (suc (length p)) ≡ false →
        (ltb n (length p) ≡ false → Goes (kid s.element s.pointer_number) p) → Goes (object sh dat kid) (s ∷ p)
    go true e h f =
        let k : suc (length p) ≤ 1 + n = ltb-false (1 + n) (suc (length p)) h in
        let q = and_parts _ _ e in
        let q' = and_parts _ _ q.1 in
        ((eqb-true _ _ q.0, ltb-true _ _ q'.0, ltb-true _ _ q'.1), f (le-ltb n (length p) (omega arith)))
    go false e h f = let k : suc (length p) ≤ 0 = ltb-false 0 (suc (length p)) h in absurd (omega arith)

none : (k : ℕ) → verdict k ≡ fine → k ≡ 0
none zero h = refl
none (suc k) h = let z : ◌≡◌ {A = ℕ} 0 1 = cc in absurd (omega arith)

short : (v : Value) (p : List Step) → bad_path p ≡ false → length p ≤ 63
short v p e = grind (arith, nat_tests)

-- a path that is judged fine is short, goes, and leaves no ruling
pub fine_path : (v : Value) (p : List Step) (n : ℕ) → judge_path v p n ≡ fine → (length p ≤ 63) × Goes v p × (n ≡ 0)
fine_path v p n h = go (bad_path p) refl h
  where
    test : (t : Bool) → ltb (went v p) (length p) ≡ t → cond t (wrong (nowhere (went v p))) (verdict n) ≡ fine → Goes v p × (n ≡ 0)
    test true e h = let z : ◌≡◌ {A = ℕ} 0 1 = cc in absurd (omega arith)
    test false e h = (went_goes p v e, none n h)

    go : (b : Bool) → bad_path p ≡ b →
        cond b (wrong (refused 1)) (cond (ltb (went v p) (length p)) (wrong (nowhere (went v p))) (verdict n)) ≡ fine →
        (length p ≤ 63) × Goes v p × (n ≡ 0)
    go true e h = let z : ◌≡◌ {A = ℕ} 0 1 = cc in absurd (omega arith)
    go false e h = let q = test _ refl h in (short v p e, q.0, q.1)

-- ## An accepted call

pub fine_goes : (v : Value) (c : Call) → judge v c ≡ fine → Goes v c.path
unfolding judge
fine_goes v c h = (fine_path v c.path _ h).1

pub fine_short : (v : Value) (c : Call) → judge v c ≡ fine → length c.path ≤ 63
unfolding judge
fine_short v c h = (fine_path v c.path _ h).0

no_objection : (n z : ℕ) → cond (ltb 0 n) n z ≡ 0 → (n ≡ 0) × (z ≡ 0)
no_objection n z h = go (ltb 0 n) refl h
  where
    go : (b : Bool) → ltb 0 n ≡ b → cond b n z ≡ 0 → (n ≡ 0) × (z ≡ 0)
    go true e h = let k : 0 < n = ltb-true 0 n e in absurd (omega arith)
    go false e h = (omega (arith, ltb-false 0 n e), h)

not_ten : (b : Bool) → ◌≡◌ {A = ℕ} (cond b 10 0) 0 → b ≡ false
not_ten true h = absurd (omega arith)
not_ten false h = refl

pub fine_ruling : (v : Value) (c : Call) → judge v c ≡ fine →
    (objection c.edit (value_at v c.path) ≡ 0) × (makes_too_large (making c.edit (value_at v c.path)) ≡ false)
unfolding judge
fine_ruling v c h =
    let q = no_objection (objection c.edit (value_at v c.path)) _ (fine_path v c.path _ h).2 in
    (q.0, not_ten _ q.1)
