-- What an edit makes of a place, in words: every making but a rebuild.
use Rattle.std.proofs.Common.{◌≡◌, ℕ, ◌+◌, ◌<◌, ◌≤◌, List, sym, ap, ◌∙◌, subst, ⊎_elim, arith}
use Rattle.std.proofs.lemmas.Bool.{cases_lt}
use Rattle.tree.specs.Value.{Shape, Value, null, object, rows, places, place_word, Step, Goes, value_at, put, blank, change}
use Rattle.tree.specs.Shows.{Memory, Landing, land, span, reach, walk, Sound}
use Rattle.tree.specs.Edits.{outer, Cleared, New, taken}
use Rattle.tree.specs.Numbers.{place_put, place_bits, FitsPlace}
use Rattle.tree.proofs.Count.{within_in}
use Rattle.tree.proofs.Context.{change_else}
use Rattle.tree.proofs.Edits as edits
use Rattle.tree.proofs.Blank as blanks
use Rattle.tree.proofs.Blank.{fresh_within}
use Rattle.tree.proofs.Numbers as numbers
use Rattle.tree.proofs.Numbers.{place_word_in}
use Rattle.tree.proofs.Values.{goes_put, value_at_put, put_put, put_walk}
use Rattle.tree.proofs.Replace.{once_parts, outer_inside, slot_outer, beyond}
use Rattle.law.specs.Exact.{wiped, placed}
use Rattle.law.proofs.Spots.{Spot}
use Rattle.law.proofs.Inits.{wiped_cleared, spot_new}

-- ## A place in a tree that is laid out

-- the words H show v, with `a` counting the allocated words, and the path goes
pub record Site (H : Memory) (a : ℕ → ℕ) (v : Value) (p : List Step) : Type 0 where
  pub goes : Goes v p
  pub sound : Sound H a v

-- the words H' show v with u at the path's end, which the path still leads to
pub record Turned (H H' : Memory) (a' : ℕ → ℕ) (v : Value) (p : List Step) (u : Value) : Type 0 where
  pub sound : Sound H' a' (put v p u)
  pub there : walk H' 0 0 (put v p u) p ≡ walk H 0 0 v p

module _ (H : Memory) (a : ℕ → ℕ) (v : Value) (p : List Step) (c : Site H a v p) where
  abbrev pub seg : ℕ
  seg = (walk H 0 0 v p).0

  abbrev pub pos : ℕ
  pos = (walk H 0 0 v p).1

  pub slot_allocated : (walk H 0 0 v p).1 < a (walk H 0 0 v p).0
  slot_allocated = outer_inside H H a a v p c.goes c.sound seg pos (omega (arith, slot_outer H H a a v p c.goes c.sound))

  -- what changes only behind the slot leaves the path as it was
  pub still_there : (H' : Memory) (u : Value) →
      ((x y : ℕ) → 1 ≤ outer H v p x y → (x ≡ seg → y ≡ pos → ⊥) → H' x y ≡ H x y) → walk H' 0 0 (put v p u) p ≡ walk H 0 0 v p
  still_there H' u h = put_walk H H' u p v 0 0 c.goes c.sound.once h

  -- a word that is counted around the slot is not counted behind it
  pub around_only : (x y : ℕ) → 1 ≤ outer H v p x y → reach H seg pos (value_at v p) x y ≡ 0
  around_only x y h = omega (arith, once_parts H H a a v p c.goes c.sound x y)

  -- ## Null

  pub turn_null : (H' : Memory) → Cleared H H' seg pos (value_at v p) → Turned H H' a v p null
  turn_null H' k = record {
    sound = edits.clear H H' a v p c.goes c.sound k;
    there = still_there H' null (λ x y h m. k.kept x y (around_only x y h) m);
  }

  -- ## A number

  module _ (sh : Shape) (dat : ℕ → ℕ → ℕ) (kid : ℕ → ℕ → Value) (is : value_at v p ≡ object sh dat kid) (i k x : ℕ)
      (hi : i < rows sh) (hk : k < places sh) (hx : FitsPlace sh x) (wide : 1 ≤ place_bits sh) where
    abbrev lies : Landing
    lies = land H (walk H 0 0 v p).0 (walk H 0 0 v p).1

    abbrev wrote : Memory
    wrote = change H lies.seg (lies.pos + place_word sh i k) (place_put sh (H lies.seg (lies.pos + place_word sh i k)) i x)

    pub turn_number : Turned H wrote a v p (object sh (change dat i k x) kid)
    turn_number = record {
      sound = numbers.write H a v p sh dat kid i k x c.goes c.sound is hi hk hx wide;
      there = still_there wrote _
          (λ b y h m.
          change_else H lies.seg (lies.pos + place_word sh i k) _ b y
          (λ e f.
          let none : reach H seg pos (object sh dat kid) b y ≡ 0 = subst (λ u. reach H seg pos u b y ≡ 0) is (around_only b y h) in
          omega (
            arith,
            none,
            within_in lies.seg lies.pos (span lies.said sh) b y e (omega arith) (omega (arith, (place_word_in sh i k hi hk wide).1)),
          )));
    }

  -- ## A new object

  module _ (a' : ℕ → ℕ) (s t : ℕ) (sh : Shape) (o : Spot (walk H 0 0 v p).0 (walk H 0 0 v p).1 s t sh a a') where
    abbrev Hm : Memory
    Hm = wiped H (walk H 0 0 v p).0 (walk H 0 0 v p).1 (value_at v p)

    abbrev Hn : Memory
    Hn = placed H (walk H 0 0 v p).0 (walk H 0 0 v p).1 (value_at v p) s t sh

    emptied : Turned H Hm a v p null
    emptied = turn_null Hm (wiped_cleared H seg pos (value_at v p))

    pub is_new : New Hm Hn a a' (walk H 0 0 v p).0 (walk H 0 0 v p).1 o.l sh
    is_new = spot_new Hm seg pos s t sh a a' o slot_allocated (λ x y h. beyond Hm a (put v p null) emptied.sound x y h)

    goes_null : Goes (put v p null) p
    goes_null = goes_put p v null c.goes

    new_there : New Hm Hn a a' (walk Hm 0 0 (put v p null) p).0 (walk Hm 0 0 (put v p null) p).1 o.l sh
    new_there = rw emptied.there is_new

    -- words allocated before are not among the new ones
    pub not_new : (x y : ℕ) → y < a x → taken o.l sh x y ≡ 0
    not_new x y h =
        ⊎_elim
        (λ (k : 0 < taken o.l sh x y). absurd (omega (arith, o.new x y k)))
        (λ (k : taken o.l sh x y ≤ 0). omega arith)
        (cases_lt 0 (taken o.l sh x y))

    pub turn_new : Turned H Hn a' v p (blank sh)
    turn_new = record {
      sound = subst (Sound Hn a') (put_put p v null (blank sh) c.goes)
          (blanks.init Hm Hn a a' (put v p null) p o.l sh goes_null emptied.sound (value_at_put p v null c.goes) new_there);
      there = ap (λ u. walk Hn 0 0 u p) (sym (put_put p v null (blank sh) c.goes)) ∙
          put_walk Hm Hn (blank sh) p (put v p null) 0 0 goes_null emptied.sound.once
          (λ x y h m. new_there.kept x y (not_new x y (outer_inside Hm Hm a a (put v p null) p goes_null emptied.sound x y h)) m) ∙
          emptied.there;
    }

    pub new_leads : land Hn (walk H 0 0 v p).0 (walk H 0 0 v p).1 ≡ o.l
    new_leads = is_new.placed.leads
