-- All that a slot reaches becomes zero, then the slot itself.
use Rattle.std.proofs.Common.{◌≡◌, ℕ, ◌+◌, ◌<◌, ◌≤◌, Bool, true, cond, ltb, ◌⊎◌, List, map, length, sym, refl, ap, ◌∙◌, subst, inl, inr, ⊎_elim, arith}
use mathlib.Core.Path.{fun_ext}
use Rattle.std.proofs.lemmas.Bool.{lt-ltb, cases_eq}
use Rattle.tree.specs.Value.{Value, change}
use Rattle.tree.specs.Shows.{Memory, Shows, within, reach}
use Rattle.tree.proofs.Context.{change_here, change_else, Once}
use Rattle.tree.proofs.Count.{within_in, within_cases}
use Rattle.law.specs.Exact.{zeroed, wiped}
use Rattle.law.specs.Law.{Offers, State, memory}
use Rattle.table.specs.Segments.{Table, allocated_in}
use Rattle.layout.specs.Clears.{Clears}
use Rattle.effects.specs.States.{Rewritten}
use Rattle.effects.specs.Makes.{Slot}

wiped_at : (H : Memory) (g w : ℕ) (u : Value) → change (zeroed H (reach H g w u)) g w 0 ≡ wiped H g w u
wiped_at H g w u = fun_ext (λ x. fun_ext (λ y. at x y (cases_eq x g) (cases_eq y w)))
  where
    apart : (x y : ℕ) → (x ≡ g → y ≡ w → ⊥) → reach H g w u x y ≡ within g w 1 x y + reach H g w u x y
    apart x y n =
        ⊎_elim
        (λ (c : (within g w 1 x y ≡ 1) × (x ≡ g) × (w ≤ y) × (y < w + 1)). absurd (n c.1 (omega arith)))
        (λ (c : within g w 1 x y ≡ 0). omega arith)
        (within_cases g w 1 x y)

    else : (x y : ℕ) → (x ≡ g → y ≡ w → ⊥) → change (zeroed H (reach H g w u)) g w 0 x y ≡ wiped H g w u x y
    else x y n =
        let none : reach H g w u x y ≡ within g w 1 x y + reach H g w u x y = apart x y n in
        change_else (zeroed H (reach H g w u)) g w 0 x y n ∙ ap (λ (k : ℕ). cond (ltb 0 k) 0 (H x y)) none

    at : (x y : ℕ) → (x ≡ g) ⊎ (x ≡ g → ⊥) → (y ≡ w) ⊎ (y ≡ w → ⊥) → change (zeroed H (reach H g w u)) g w 0 x y ≡ wiped H g w u x y
    at x y (inl e) (inl f) =
        let one : within g w 1 g w ≡ 1 = within_in g w 1 g w refl (omega arith) (omega arith) in
        let yes : ltb 0 (within g w 1 g w + reach H g w u g w) ≡ true = lt-ltb 0 _ (omega arith) in
        rw (e, f) (change_here (zeroed H (reach H g w u)) g w 0 ∙ sym (ap (λ (b : Bool). cond b 0 (H g w)) yes))
    at x y (inl e) (inr n) = else x y (λ _. n)
    at x y (inr n) f = else x y (λ e _. n e)

-- H is the words before, K those without what the slot reached, N those with the slot zero too
pub cleared : (s : State) (H K N : Memory) (g w : ℕ) (u : Value) → H ≡ memory s → Slot s g w u → Clears H K g w → N ≡ change K g w 0 → N ≡ wiped H g w u
cleared s H K N g w u same slot clears e =
    let k : K ≡ zeroed H (reach H g w u) =
    clears (allocated_in s.table) u slot.small (subst (λ (M : Memory). Shows M (allocated_in s.table) g w u) (sym same) slot.shown) slot.nested
    (λ x y. let o = subst (λ (M : Memory). Once M g w u) (sym same) slot.once x y in omega arith) in
    e ∙ (ap (λ (M : Memory). change M g w 0) k ∙ wiped_at H g w u)

-- zeroing rewrites words
pub zeroed_state : (m n : List (List ℕ)) (o o' f f' : Offers) (t : Table) → map length n ≡ map length m → o' ≡ o → f' ≡ f →
    Rewritten (record { source = record { segments = m; offers = o; first_offers = f }; table = t }) (record { source = record { segments = n; offers = o'; first_offers = f' }; table = t })
zeroed_state m n o o' f f' t a b c = record { same_lengths = a; same_offers = b; same_first = c; same_table = refl }
