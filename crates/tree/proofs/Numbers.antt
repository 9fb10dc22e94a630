-- Writing a number changes that number and no other.
use Rattle.std.proofs.Common.{◌≡◌, ℕ, ◌+◌, ◌-◌, ◌*◌, ◌^◌, ◌<◌, ◌≤◌, ◌≢◌, List, sym, refl, ap, ◌∙◌, ⊎_elim, arith}
use Rattle.std.proofs.lemmas.Bool.{cases_eq}
use Rattle.wire.specs.Sizes.{element_bits}
use Rattle.wire.specs.Elements.{element_word, element_in, element_put}
use Rattle.wire.proofs.Splices.{element_back, element_others}
use Rattle.tree.specs.Value.{Element, void, bit, byte, two_bytes, four_bytes, eight_bytes, pointer, Shape, structure, plain, composite, Value, object, rows, pointers, places, size, slot, head, number, place_word, element_code, element_pointers, change, Step, Goes, value_at, put}
use Rattle.tree.specs.Shows.{span, Memory, Landing, land, Shows, walk, Describes, Sound}
use Rattle.tree.specs.Edits.{Renumbered}
use Rattle.tree.specs.Numbers.{place_put, place_bits, FitsPlace}
use Rattle.tree.proofs.Count.{within_in}
use Rattle.tree.proofs.Shapes.{row_fits, row_apart}
use Rattle.tree.proofs.Frame.{describes_headed}
use Rattle.tree.proofs.Context.{change_here, change_else, reached}
use Rattle.tree.proofs.Edits.{renumber}

-- ## Elements

-- the word of element k, if it is the word of element i
module _ (ws us : ℕ → ℕ) (m u : ℕ) (here : us m ≡ u) (else : (n : ℕ) → n ≢ m → us n ≡ ws n) (f g : ℕ → ℕ) where
  by_word : (n : ℕ) → (n ≡ m → f u ≡ g (ws m)) → (n ≢ m → f (ws n) ≡ g (ws n)) → f (us n) ≡ g (ws n)
  by_word n same other =
      ⊎_elim
      (λ (e : n ≡ m). rw (e, here) (same e))
      (λ (e : n ≡ m → ⊥). rw (else n e) (other e))
      (cases_eq n m)

code_small : (c : Element) → 0 < 1 - element_pointers c → element_code c < 6
code_small void h = omega arith
code_small bit h = omega arith
code_small byte h = omega arith
code_small two_bytes h = omega arith
code_small four_bytes h = omega arith
code_small eight_bytes h = omega arith
code_small pointer h = absurd (omega arith)

pub element_set_else : (c : ℕ) (ws us : ℕ → ℕ) (i x k : ℕ) → c < 6 → x < 2 ^ element_bits c →
    us (element_word c i) ≡ element_put (ws (element_word c i)) c i x →
    ((n : ℕ) → n ≢ element_word c i → us n ≡ ws n) → k ≢ i → element_in (us (element_word c k)) c k ≡ element_in (ws (element_word c k)) c k
element_set_else c ws us i x k hc h e o n =
    by_word ws us (element_word c i) (element_put (ws (element_word c i)) c i x) e o (λ z. element_in z c k) (λ z. element_in z c k) (element_word c k)
    (λ q. element_others (ws (element_word c i)) c i x k hc h q n)
    (λ _. refl)

-- ## Any shape

pub number_set_here : (sh : Shape) (ws us : ℕ → ℕ) (i k x : ℕ) → i < rows sh → k < places sh → FitsPlace sh x →
    us (place_word sh i k) ≡ place_put sh (ws (place_word sh i k)) i x → number sh us i k ≡ x
number_set_here (structure dw pw) ws us i k x hi hk h e = e
number_set_here (plain c n) ws us i k x hi hk h e = rw e (element_back (ws (element_word (element_code c) i)) (element_code c) i x h)
number_set_here (composite n dw pw) ws us i k x hi hk h e = e

pub number_set_else : (sh : Shape) (ws us : ℕ → ℕ) (i k x a b : ℕ) → i < rows sh → k < places sh → a < rows sh → b < places sh →
    FitsPlace sh x → us (place_word sh i k) ≡ place_put sh (ws (place_word sh i k)) i x →
    ((n : ℕ) → n ≢ place_word sh i k → us n ≡ ws n) → (a ≡ i → b ≡ k → ⊥) → number sh us a b ≡ number sh ws a b
number_set_else (structure dw pw) ws us i k x a b hi hk ha hb h e o n = o b (λ q. n (omega arith) q)
number_set_else (plain c m) ws us i k x a b hi hk ha hb h e o n =
    element_set_else (element_code c) ws us i x a (code_small c (omega arith)) h e o (λ q. n q (omega arith))
number_set_else (composite m dw pw) ws us i k x a b hi hk ha hb h e o n =
    o (1 + a * (dw + pw) + b)
    (λ q.
    let r : a ≡ i = row_apart a i (dw + pw) b k (omega arith) (omega arith) (omega arith) in
    n r (omega (arith, ap (λ z. z * (dw + pw)) r)))

-- the word is one of the object, behind the tag, and no slot (a list of no bits has none)
pub place_word_in : (sh : Shape) (i k : ℕ) → i < rows sh → k < places sh → 1 ≤ place_bits sh →
    (head sh ≤ place_word sh i k) × (place_word sh i k < size sh) × ((a b : ℕ) → a < rows sh → b < pointers sh → slot sh a b ≢ place_word sh i k)
place_word_in (structure dw pw) i k hi hk h = (omega arith, omega arith, λ a b ha hb. omega arith)
place_word_in (plain c n) i k hi hk h = (
  omega arith,
  omega (arith, row_fits i n (element_bits (element_code c)) hi),
  λ a b ha hb. absurd (omega arith),
)
place_word_in (composite n dw pw) i k hi hk h = (
  omega arith,
  omega (arith, row_fits i n (dw + pw) hi),
  λ a b ha hb e.
      let r : a ≡ i = row_apart a i (dw + pw) (dw + b) k (omega arith) (omega arith) (omega arith) in
      omega (arith, ap (λ z. z * (dw + pw)) r),
)

-- ## The write

-- one word is written
module _ (H : Memory) (a : ℕ → ℕ) (g w : ℕ) (sh : Shape) (dat : ℕ → ℕ → ℕ) (kid : ℕ → ℕ → Value) (s : Shows H a g w (object sh dat kid))
    (i k x : ℕ) (hi : i < rows sh) (hk : k < places sh) (hx : FitsPlace sh x) (wide : 1 ≤ place_bits sh) where
  abbrev l : Landing
  l = land H g w

  abbrev m : ℕ
  m = place_word sh i k

  abbrev pub written : Memory
  written = change H (land H g w).seg ((land H g w).pos + place_word sh i k) (place_put sh (H (land H g w).seg ((land H g w).pos + place_word sh i k)) i x)

  elsewhere : (n : ℕ) → n ≢ m → written l.seg (l.pos + n) ≡ H l.seg (l.pos + n)
  elsewhere n h = change_else H l.seg (l.pos + m) (place_put sh (H l.seg (l.pos + m)) i x) l.seg (l.pos + n) (λ _ q. h (omega arith))

  pub written_is : Renumbered H written a g w sh (change dat i k x)
  written_is =
      let p = place_word_in sh i k hi hk wide in
      record {
        now = record {
          described = described p.0 s.1.described;
          inside = s.1.inside;
          pads_inside = s.1.pads_inside;
          numbers = λ b c hb hc.
              ⊎_elim
              (λ (e : b ≡ i).
              ⊎_elim
              (λ (f : c ≡ k). rw (e, f) (change_here dat i k x ∙ sym now_here))
              (λ (f : c ≡ k → ⊥). other b c hb hc (λ _. f))
              (cases_eq c k))
              (λ (e : b ≡ i → ⊥). other b c hb hc (λ q _. e q))
              (cases_eq b i);
          no_more = λ b c o. change_else dat i k x b c (λ e f. ⊎_elim (λ (z : rows sh ≤ b). omega arith) (λ (z : places sh ≤ c). omega arith) o) ∙ s.1.no_more b c o;
        };
        slots = λ b c hb hc. elsewhere (slot sh b c) (p.2 b c hb hc);
        kept = λ b y h.
            change_else H l.seg (l.pos + m) (place_put sh (H l.seg (l.pos + m)) i x) b y
            (λ e f. omega (arith, h, within_in l.seg l.pos (span l.said sh) b y e (omega arith) (omega (arith, p.1))));
      }
    where
      described : head sh ≤ m → Describes l.said (H l.seg l.pos) sh → Describes l.said (written l.seg l.pos) sh
      described h d =
          describes_headed l.said (H l.seg l.pos) (written l.seg l.pos) sh
          (λ q. change_else H l.seg (l.pos + m) (place_put sh (H l.seg (l.pos + m)) i x) l.seg l.pos (λ _ f. omega arith))
          d

      now_here : number sh (λ n. written l.seg (l.pos + n)) i k ≡ x
      now_here =
          number_set_here sh (λ n. H l.seg (l.pos + n)) (λ n. written l.seg (l.pos + n)) i k x hi hk hx
          (change_here H l.seg (l.pos + m) (place_put sh (H l.seg (l.pos + m)) i x))

      other : (b c : ℕ) → b < rows sh → c < places sh → (b ≡ i → c ≡ k → ⊥) → change dat i k x b c ≡ number sh (λ n. written l.seg (l.pos + n)) b c
      other b c hb hc n =
          change_else dat i k x b c n ∙
          (s.1.numbers b c hb hc ∙
          sym
          (number_set_else sh (λ n. H l.seg (l.pos + n)) (λ n. written l.seg (l.pos + n)) i k x b c hi hk hb hc hx
          (change_here H l.seg (l.pos + m) (place_put sh (H l.seg (l.pos + m)) i x))
          elsewhere
          n))

pub write : (H : Memory) (a : ℕ → ℕ) (v : Value) (p : List Step) (sh : Shape) (dat : ℕ → ℕ → ℕ) (kid : ℕ → ℕ → Value) (i k x : ℕ) →
    Goes v p → Sound H a v → value_at v p ≡ object sh dat kid → i < rows sh → k < places sh → FitsPlace sh x → 1 ≤ place_bits sh →
    let l = land H (walk H 0 0 v p).0 (walk H 0 0 v p).1 in
    Sound (change H l.seg (l.pos + place_word sh i k) (place_put sh (H l.seg (l.pos + place_word sh i k)) i x)) a (put v p (object sh (change dat i k x) kid))
write H a v p sh dat kid i k x go ok e hi hk hx wide =
    let s : Shows H a (walk H 0 0 v p).0 (walk H 0 0 v p).1 (object sh dat kid) = rw e at (reached H a p v 0 0 go ok.shown) in
    renumber H _ a v p sh dat (change dat i k x) kid go ok e (written_is H a (walk H 0 0 v p).0 (walk H 0 0 v p).1 sh dat kid s i k x hi hk hx wide)
