-- A segment that is granted and allocated in at once.
use Rattle.std.proofs.Common.{◌≡◌, ℕ, ◌^◌, ◌<◌, ◌≤◌, Bool, true, false, cond, ltb, ◌⊎◌, [], ◌∷◌, ◌++◌, length, Some, None, sym, refl, ap, ◌∙◌, inl, inr, arith}
use Rattle.std.proofs.lemmas.List.{length_push}
use Rattle.std.proofs.lemmas.Bool.{and_from, lt-ltb, le-leb}
use Rattle.std.proofs.lemmas.Option.{cond_some, none-some}
use Rattle.table.specs.Segments.{fresh, more, Table, allocated_in, left_in, take, first_fit}
use Rattle.table.specs.Meaning.{table_of, has_room, next_words, with_words, can_add, first_words, with_first_words, with_segment}
use Rattle.table.specs.declared.SegmentTable.{SegmentTable}
use Rattle.table.proofs.Tables.{append_here}
use Rattle.table.proofs.Entries.{has_room-left, allocated_small}
use Rattle.arena.specs.Space.{Space, Found, Granted}

none_false : {A : Type 0} (b : Bool) (x : A) → cond b (Some x) None ≡ None → b ≡ false
none_false true x e = absurd (none-some x (sym e))
none_false false x e = refl

-- where nothing was found, no segment is below the count
pub unfound : (t : Table) (n : ℕ) → first_words t n ≡ None → ltb (first_fit t n) (length t) ≡ false
unfound t n e = none_false (ltb (first_fit t n) (length t)) _ e

-- such a table is as it was
pub unfound_same : (t : Table) (n : ℕ) → first_words t n ≡ None → with_first_words t n ≡ t
unfound_same t n e = rw (unfound t n e)

left_last : (t : Table) (c : ℕ) → left_in (t ++ (fresh c ∷ [])) (length t) ≡ c
left_last [] c = omega arith
left_last (s ∷ t) c = left_last t c

take_last : (t : Table) (c n : ℕ) → take (t ++ (fresh c ∷ [])) (length t) n ≡ t ++ (more (fresh c) n ∷ [])
take_last [] c n = refl
take_last (s ∷ t) c n = ap (λ (u : Table). s ∷ u) (take_last t c n)

-- n words of a segment just added: t₁ is the table before, g the segment, t₂ the table after
pub granted_words : (t t₁ t₂ : Table) (g n c : ℕ) → t₁ ≡ t → g ≡ length t₁ → g < 64 → n ≤ c → c < 2 ^ 29 → t₂ ≡ with_segment t₁ c →
    (next_words t₂ g n ≡ Some 0) × (with_words t₂ g n ≡ t ++ (more (fresh c) n ∷ []))
granted_words t t₁ t₂ g n c same count few fits small two =
    let l = length_push t (fresh c) in
    let e = left_last t c in
    let k : g ≡ length t = count ∙ ap length same in
    let a : can_add t c ≡ true = and_from (ltb (length t) 64) (ltb c 536870912) (lt-ltb (length t) 64 (omega arith)) (lt-ltb c 536870912 small) in
    let b : has_room (t ++ (fresh c ∷ [])) (length t) n ≡ true =
    has_room-left (t ++ (fresh c ∷ [])) (length t) n (omega arith) ∙ le-leb n (left_in (t ++ (fresh c ∷ [])) (length t)) (omega arith) in
    rw (two, same, k, a, b) (ap Some (append_here t (fresh c)), take_last t c n)

-- the words that an allocation anywhere answers lie below 2 ^ 29
pub anywhere_small : (t : SegmentTable) (n : ℕ) (s s' : Space) (p : ℕ × ℕ) → s.table ≡ table_of t → Found n s p s' ⊎ Granted n s p s' → p.1 < 2 ^ 29
anywhere_small t n s s' p e (inl f) =
    let g : ℕ = first_fit s.table n in
    let w = cond_some (ltb g (length s.table)) (g, allocated_in s.table g) p f.pair_is in
    let i : allocated_in (table_of t) g ≡ p.1 = ap (λ (u : Table). allocated_in u g) (sym e) ∙ ap (λ (q : ℕ × ℕ). q.1) w.1 in
    omega (arith, allocated_small (lib.ListN.take t.count t.entries) g)
anywhere_small t n s s' p e (inr f) = let i : p.1 ≡ 0 = ap (λ (q : ℕ × ℕ). q.1) f.pair_is in omega arith
