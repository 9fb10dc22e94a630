-- Where a path leads on words that show a tree is what the tree says.
use Rattle.std.proofs.Common.{◌≡◌, ℕ, ◌^◌, ◌≤◌, false, List, Some, None, Ok, Option, sym, ap, ◌∙◌, subst, arith}
use Rattle.tree.specs.Value as value
use Rattle.tree.specs.Value.{Value, object, value_at}
use Rattle.tree.specs.Shows.{Memory, Shows, walk}
use Rattle.tree.proofs.Context.{reached}
use Rattle.tree.proofs.Paths.{shows_null, shows_object}
use Rattle.law.specs.Calls.{Answer}
use Rattle.law.specs.Machine.{bad_path, fine, wrong, verdict, judge_path}
use Rattle.law.proofs.Judged.{fine_path}
use Rattle.path.specs.declared.step.Step.{Step}
use Rattle.walk.specs.declared.spot.Spot.{Spot}
use Rattle.walk.specs.Spots.{spot_of}
use Rattle.walk.specs.Holding.{Leads, Holds}
use Rattle.walk.specs.Slots.{steps_of, place_in}
use Rattle.walk.proofs.Along.{along_root}
use Rattle.walk.specs.declared.held.Held.{Held}
use Rattle.judging.specs.declared.site.Site.{Site}
use Rattle.judging.specs.Sites.{Arrives, shape_in, shape_held, Stands}

-- ## A path by itself

module _ (v : Value) (p : List value.Step) where
  -- what is judged of the path stands before every later ruling
  pub fine_then : (n : ℕ) → judge_path v p 0 ≡ fine → judge_path v p n ≡ verdict n
  fine_then n e = grind arith

  pub wrong_then : (n : ℕ) (y : Answer) → judge_path v p 0 ≡ wrong y → judge_path v p n ≡ wrong y
  wrong_then n y e = grind arith

  -- the place is a slot
  arrives : (H : Memory) (x : Spot) → bad_path p ≡ false → place_in H v p ≡ Ok x → (judge_path v p 0 ≡ fine) × (spot_of x ≡ walk H 0 0 v p)
  arrives H x b e = grind arith

-- ## The object at its end

pub shape_found : (H : Memory) (a : ℕ → ℕ) (g w : ℕ) (u : Value) (o : Option Held) → Shows H a g w u → Holds H g w o → shape_held o ≡ shape_in u
shape_found H a g w u None shown z = sym (ap shape_in (shows_null H a g w u shown z))
shape_found H a g w u (Some h) shown l =
    let q = shows_object H a g w u shown l.live in
    ap Some l.shaped ∙ sym (ap shape_in q.2)

-- what a slot leads to, if something is held
pub led_to : (H : Memory) (g w : ℕ) (o : Option Held) (h : Held) → o ≡ Some h → Holds H g w o → Leads H g w h
led_to H g w o h e l = subst (Holds H g w) e l

-- the slot of a place shows the value there
pub slot_shows : (H : Memory) (a : ℕ → ℕ) (v : Value) (p : List value.Step) (x : ℕ × ℕ) → Shows H a 0 0 v → judge_path v p 0 ≡ fine → x ≡ walk H 0 0 v p →
    Shows H a x.0 x.1 (value_at v p)
slot_shows H a v p x shown e q =
    subst (λ (z : ℕ × ℕ). Shows H a z.0 z.1 (value_at v p)) (sym q) (reached H a p v 0 0 (fine_path v p 0 e).1 shown)

module _ (H : Memory) (ss : List Step) (a : ℕ → ℕ) (v : Value) (small : (x : ℕ) → a x ≤ 2 ^ 29) (shown : Shows H a 0 0 v) where
  abbrev p : List value.Step
  p = steps_of ss

  pub stood : (s : Site) → Arrives H ss s → Stands H v p s
  stood s m =
      let q = arrives v p H s.slot m.good (sym (along_root H a small ss v shown) ∙ m.led) in
      let here = slot_shows H a v p (spot_of s.slot) shown q.0 q.1 in
      record { judged = q.0; slot = q.1; held = m.held; shape = shape_found H a s.slot.segment s.slot.word (value_at v p) s.object here m.held }
