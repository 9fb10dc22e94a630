-- A larger object is opened: only words that were taken since the mark are written.
use Rattle.std.proofs.Common.{◌≡◌, ℕ, ◌-◌, ◌<◌, ◌≤◌, Bool, true, false, cond, ◌||◌, eqb, ◌≢◌, refl, ap, ◌∙◌, subst, ⊎_elim, arith}
use Rattle.std.proofs.lemmas.Bool.{eq-eqb, ne_eqb, cases_eq}
use Rattle.wire.specs.Pointers.{struct_list_tag}
use Rattle.tree.specs.Value.{Shape, structure, plain, composite, size, change}
use Rattle.tree.specs.Shows.{Memory, Landing}
use Rattle.tree.proofs.Context.{change_else}
use Rattle.table.specs.Segments.{Table, allocated_in}
use Rattle.law.specs.Exact.{no_words, pointer_word, padded, tagged, opened, copied}
use Rattle.law.specs.Law.{State, memory}
use Rattle.effects.specs.States.{Rewritten, Prepared}
use Rattle.effects.proofs.Writing.{rewritten_sized}
use Rattle.widen.specs.Numbers.{Copies, Put}
use Rattle.rebuilding.specs.Steps.{Opens}

-- ## Which words pad and tag are

padded_else : (H : Memory) (g s t : ℕ) (sh : Shape) (x y : ℕ) → ((s ≡ g → ⊥) → x ≡ s → y ≡ t - 1 → ⊥) → padded H g s t sh x y ≡ H x y
padded_else H g s t sh x y h = by (no_words sh)
  where
    by : (b : Bool) → cond (b || eqb s g) H (change H s (t - 1) (pointer_word sh (t - 1) t)) x y ≡ H x y
    by true = refl
    by false =
        ⊎_elim
        (λ (e : s ≡ g). rw (eq-eqb s g e) refl)
        (λ (n : s ≢ g). rw (ne_eqb s g n) (change_else H s (t - 1) (pointer_word sh (t - 1) t) x y (h n)))
        (cases_eq s g)

tagged_else : (H : Memory) (s t : ℕ) (sh : Shape) (x y : ℕ) → (x ≡ s → y ≡ t → 1 ≤ size sh → ⊥) → tagged H s t sh x y ≡ H x y
tagged_else H s t (structure dw pw) x y h = refl
tagged_else H s t (plain c n) x y h = refl
tagged_else H s t (composite n dw pw) x y h = change_else H s t (struct_list_tag n dw pw) x y (λ e f. h e f (omega arith))

-- ## The steps

-- b has the room, m the pad and the tag, e the numbers too
module _ (mark b m e : State) (g : ℕ) (l : Landing) (sh : Shape) (s t : ℕ) (sh' : Shape) (o : Opens mark b g l sh s t sh') (r : Rewritten b m)
    (is : memory m ≡ opened (memory b) g s t sh') where
  else : (x y : ℕ) → ((s ≡ g → ⊥) → x ≡ s → y ≡ t - 1 → ⊥) → (x ≡ s → y ≡ t → 1 ≤ size sh' → ⊥) → memory m x y ≡ memory b x y
  else x y h k =
      ap (λ (H : Memory). H x y) is ∙
      (tagged_else (padded (memory b) g s t sh') s t sh' x y k ∙ padded_else (memory b) g s t sh' x y h)

  count : (x : ℕ) → allocated_in m.table x ≡ allocated_in b.table x
  count x = ap (λ (k : Table). allocated_in k x) r.same_table

  opened_prepared : Prepared mark m
  opened_prepared =
      let p = o.copies.prepared in
      record {
        kept = λ x y h.
            else x y
            (λ n i j. omega (arith, o.new_pad n, subst (λ (z : ℕ). y < allocated_in mark.table z) i h))
            (λ i j _. omega (arith, o.copies.new, subst (λ (z : ℕ). y < allocated_in mark.table z) i h)) ∙
            p.kept x y h;
        clean = λ x y h.
            else x y
            (λ n i j. omega (arith, o.new_pad n, o.room.object_inside, count s, subst (λ (z : ℕ). allocated_in m.table z ≤ y) i h))
            (λ i j one. omega (arith, o.room.object_inside, count s, subst (λ (z : ℕ). allocated_in m.table z ≤ y) i h)) ∙
            p.clean x y (omega (arith, count x));
        grown = λ x. omega (arith, p.grown x, count x);
        sized = rewritten_sized b m r p.sized;
      }

  opened_copies : Copies mark m l sh s t sh'
  opened_copies = record {
    prepared = opened_prepared;
    from = o.copies.from;
    to = λ i k hi hk. omega (arith, o.copies.to i k hi hk, count s);
    new = o.copies.new;
  }

  pub opened_larger : ((n : State) → Copies n m l sh s t sh' → Put n (copied (memory n) l sh s t sh' (memory m)) e) →
      Put mark (copied (memory mark) l sh s t sh' (opened (memory mark) g s t sh')) e
  opened_larger copy =
      let p = copy mark opened_copies in
      let same : memory m ≡ opened (memory mark) g s t sh' = is ∙ ap (λ (H : Memory). opened H g s t sh') o.same_words in
      record { words = p.words ∙ ap (copied (memory mark) l sh s t sh') same; prepared = p.prepared }
