-- Trees stay nested at most 64 deep.
use Rattle.std.proofs.Common.{◌≡◌, ℕ, zero, suc, ◌-◌, ◌≤◌, List, [], ◌∷◌, length, refl, arith}
use Rattle.tree.specs.Value.{Value, null, object, value_at}
use Rattle.tree.specs.Decode.{Deep}
use Rattle.tree.proofs.Decoding.{deep_put}
use Rattle.law.specs.Calls.{Edit, Call}
use Rattle.law.specs.Machine.{Making, keep, wipe, set, new, spell, rebuild, making, made, effect, Verdict, fine, wrong, judge, judged, step}
use Rattle.law.specs.Runs.{Fed, tree}
use Rattle.law.specs.Drafts.{plain_machine}
use Rattle.law.proofs.Judged.{fine_short}

made_deep : (m : Making) (u : Value) (d : ℕ) → Deep (suc d) u → Deep (suc d) (made m u)
made_deep keep u d n = n
made_deep wipe u d n = tt
made_deep (set i k x) null d n = tt
made_deep (set i k x) (object sh dat kid) d n = n
made_deep (new sh) u d n = λ i j. tt
made_deep (spell bytes) u d n = λ i j. tt
made_deep (rebuild sh') null d n = tt
made_deep (rebuild sh') (object sh dat kid) d n = n

effect_deep : (e : Edit) (u : Value) (d : ℕ) → Deep (suc d) u → Deep (suc d) (effect e u)
unfolding effect
effect_deep e u d n = made_deep (making e u) u d n

pub step_deep : (v : Value) (c : Call) (told : ℕ) → Deep 64 v → Deep 64 (step v c told).1
step_deep v c told n = go told (judge v c) refl
  where
    go : (b : ℕ) (d : Verdict) → judge v c ≡ d → Deep 64 (judged v c b d).1
    go b (wrong y) e = n
    go (suc b) fine e = n
    go zero fine e =
        let h : length c.path ≤ 63 = fine_short v c e in
        deep_put c.path v _ 64 (suc (63 - length c.path)) (omega arith) n (effect_deep c.edit (value_at v c.path) _)

tree_deep : (fs : List (Fed plain_machine)) (v : Value) → Deep 64 v → Deep 64 (tree plain_machine v fs)
tree_deep [] v n = n
tree_deep (f ∷ fs) v n = tree_deep fs _ (step_deep v f.call f.ruling n)

pub nesting : (fs : List (Fed plain_machine)) → Deep 64 (tree plain_machine null fs)
nesting fs = tree_deep fs null tt
