-- Numbers are written one after another, and all can be gone back.
use Rattle.std.proofs.Common.{◌≡◌, ℕ, ◌+◌, ◌%◌, ◌^◌, ◌<◌, ◌≤◌, min, sym, refl, ap, ◌∙◌, subst, ⊎_elim, add-one, arith}
use Rattle.std.proofs.lemmas.Bool.{cases_lt}
use Rattle.tree.specs.Value.{Shape, structure, plain, composite, rows, places, place_word, number, change}
use Rattle.tree.specs.Shows.{Memory, Landing}
use Rattle.tree.specs.Numbers.{place_bits}
use Rattle.table.specs.Segments.{Table, allocated_in}
use Rattle.table.specs.Meaning.{table_of}
use Rattle.table.specs.declared.SegmentTable.{SegmentTable}
use Rattle.law.specs.Law.{State, memory}
use Rattle.law.specs.Exact.{loop}
use Rattle.effects.specs.States.{Sized, Rewritten, Prepared}
use Rattle.effects.proofs.Writing.{within_capacity}
use Rattle.effects.proofs.Keeping.{prepared_written}
use Rattle.walk.specs.Shapes.{number_of}
use Rattle.widen.specs.Numbers.{Copies, number_copied, Put}

-- ## Words that are written

pub rewritten_none : (b : State) → Rewritten b b
rewritten_none b = record { same_lengths = refl; same_offers = refl; same_first = refl; same_table = refl }

pub rewritten_then : (b n e : State) → Rewritten b n → Rewritten n e → Rewritten b e
rewritten_then b n e p q = record {
  same_lengths = q.same_lengths ∙ p.same_lengths;
  same_offers = q.same_offers ∙ p.same_offers;
  same_first = q.same_first ∙ p.same_first;
  same_table = q.same_table ∙ p.same_table;
}

pub copies_on : (mark b n : State) (l : Landing) (sh : Shape) (s t : ℕ) (sh' : Shape) → Copies mark b l sh s t sh' → Rewritten b n → Prepared mark n →
    Copies mark n l sh s t sh'
copies_on mark b n l sh s t sh' c w p = record {
  prepared = p;
  from = c.from;
  to = λ i k hi hk. subst (λ (z : Table). t + place_word sh' i k < allocated_in z s) (sym w.same_table) (c.to i k hi hk);
  new = c.new;
}

-- ## One number

-- by the word that holds it
number_by : (sh : Shape) (ws : ℕ → ℕ) (i k : ℕ) → number sh ws i k ≡ number_of sh (ws (place_word sh i k)) i
number_by (structure dw pw) ws i k = refl
number_by (plain c n) ws i k = refl
number_by (composite n dw pw) ws i k = refl

-- a number without bits is 0
bitless : (sh : Shape) (x i : ℕ) → place_bits sh ≡ 0 → number_of sh x i ≡ 0
bitless (structure dw pw) x i e = absurd (omega arith)
bitless (plain c n) x i e = rw e (omega arith)
bitless (composite n dw pw) x i e = absurd (omega arith)

module _ (mark n : State) (u : SegmentTable) (l : Landing) (sh : Shape) (s t : ℕ) (sh' : Shape) (i k w q x : ℕ) (at_u : n.table ≡ table_of u)
    (c : Copies mark n l sh s t sh') (hi : i < rows sh) (hk : k < min (places sh) (places sh'))
    (at_w : w ≡ (l.pos + place_word sh i k) % 2 ^ 64) (at_q : q ≡ (t + place_word sh' i k) % 2 ^ 64) (is_x : x ≡ number_of sh (memory n l.seg w) i) where
  small : (a : ℕ) → allocated_in n.table a < 2 ^ 29
  small a = subst (λ (z : Table). allocated_in z a < 2 ^ 29) (sym at_u) (within_capacity u a).1

  q_is : q ≡ t + place_word sh' i k
  q_is = omega (arith, c.to i k hi hk, small s)

  -- it is as it was at the mark
  number_kept : x ≡ number sh (λ n. memory mark l.seg (l.pos + n)) i k
  number_kept =
      is_x ∙
      (⊎_elim
      (λ (d : 0 < place_bits sh).
      let old = c.from d i k hi (omega arith) in
      let w_is : w ≡ l.pos + place_word sh i k = omega (arith, old, c.prepared.grown l.seg, small l.seg) in
      ap (λ (z : ℕ). number_of sh (memory n l.seg z) i) w_is ∙
      ap (λ (z : ℕ). number_of sh z i) (c.prepared.kept l.seg (l.pos + place_word sh i k) old))
      (λ (d : place_bits sh ≤ 0).
      bitless sh (memory n l.seg w) i (omega arith) ∙ sym (bitless sh (memory mark l.seg (l.pos + place_word sh i k)) i (omega arith)))
      (cases_lt 0 (place_bits sh)) ∙
      sym (number_by sh (λ n. memory mark l.seg (l.pos + n)) i k))

  pub number_put : (e : State) → Rewritten n e → (Sized n → q < allocated_in n.table s → memory e ≡ change (memory n) s q x) →
      Put mark (number_copied (memory mark) l sh s t sh' i k (memory n)) e
  number_put e r h =
      let inside : q < allocated_in n.table s = omega (arith, c.to i k hi hk, q_is) in
      let is = h c.prepared.sized inside in
      record {
        words = is ∙ (ap (λ (z : ℕ). change (memory n) s z x) q_is ∙ ap (change (memory n) s (t + place_word sh' i k)) number_kept);
        prepared = prepared_written mark n e s q x r is (omega (arith, c.new, q_is)) inside c.prepared;
      }

-- ## The first k of them

module _ (mark : State) (f : ℕ → Memory → Memory) (b : State) where
  pub put_none : Prepared mark b → Put mark (loop 0 f (memory b)) b
  put_none p = record { words = refl; prepared = p }

  pub put_more : (k : ℕ) (n e : State) → Put mark (loop k f (memory b)) n → Put mark (f k (memory n)) e → Put mark (loop (k + 1) f (memory b)) e
  put_more k n e p q = record {
    words = q.words ∙ (ap (f k) p.words ∙ ap (λ (i : ℕ). loop i f (memory b)) (sym (add-one k)));
    prepared = q.prepared;
  }

  pub put_all : (k m : ℕ) (n : State) → k ≡ m → Put mark (loop k f (memory b)) n → Put mark (loop m f (memory b)) n
  put_all k m n e p = subst (λ (i : ℕ). Put mark (loop i f (memory b)) n) e p
