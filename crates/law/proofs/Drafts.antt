-- Runs of calls on a draft.
use Rattle.std.proofs.Common.{◌≡◌, List, [], ◌∷◌, sym, refl, ap, ◌∙◌, inl, inr, arith}
use Rattle.tree.specs.Value.{Value, null}
use Rattle.tree.specs.Words.{word}
use Rattle.tree.specs.Decode.{decode}
use Rattle.tree.proofs.Decoding.{decodes}
use Rattle.law.specs.Law.{Source, State, memory, Holds, Begun}
use Rattle.law.specs.Runs.{Event, Run, last, feed, tree, answers, FollowsAlong}
use Rattle.law.specs.Drafts.{plain_machine, drafting, tree_after, decoded, RunsStand}
use Rattle.law.proofs.Nesting.{nesting}
use Rattle.law.proofs.Tables.{first_kept}
use Rattle.law.proofs.Runs.{follows_along, fed_alike}

pub begun_holds : {X : Type 0} (S : Source X) (s : State) → Begun S s → Holds S s null
unfolding word
begun_holds S s b = record {
  stands = record {
    valued = b.valued;
    sizes_match = rw (b.no_segments, b.no_table);
    at_most = rw b.no_table (omega arith);
    bounded = rw b.no_table tt;
    offered = rw b.offers_first b.offered;
    first_offered = b.offered;
  };
  laid = inr (record { no_tree = refl; none = λ g. rw b.no_table; zeros = λ g w. rw b.no_segments });
  nested = tt;
}

along : {X : Type 0} (S : Source X) → FollowsAlong (drafting S) (Holds S)
along S = follows_along (drafting S) (Holds S) (record { answer_is = λ s v c y s' h. h.answer; holds_after = λ s v c y s' h. h.after })

pub holds_decoded : {X : Type 0} (S : Source X) (s : State) (v : Value) → Holds S s v → decode 64 (memory s) 0 0 ≡ v
holds_decoded S s v h =
    elim h.laid [
      | inl w ↦ decodes 64 (memory s) _ v 0 0 h.nested w.shown
      | inr b ↦ decodes 64 (memory s) (λ g. 0) null 0 0 tt (b.zeros 0 0) ∙ sym b.no_tree
    ]

run_decoded : {X : Type 0} (S : Source X) (s : State) (es : List (Event (drafting S))) → Begun S s → Run (drafting S) s null es → decoded S s es ≡ tree_after S es
run_decoded S s es b r = holds_decoded S (last (drafting S) s es) _ ((along S).ends s null es (begun_holds S s b) r)

first_stay : {X : Type 0} (S : Source X) (s : State) (v : Value) (es : List (Event (drafting S))) → Run (drafting S) s v es →
    (last (drafting S) s es).source.first_offers ≡ s.source.first_offers
first_stay S s v [] r = refl
first_stay S s v (e ∷ es) r = first_stay S e.after _ es r.1 ∙ first_kept S s v e.call _ e.reply e.after r.0

pub runs : (X Y : Type 0) → RunsStand X Y
runs X Y = record {
  ends = λ S s es b r. ((along S).ends s null es (begun_holds S s b) r, run_decoded S s es b r, (along S).told_so s null es r);
  agree = λ S T s t es fs b c r q e n k.
      let same : feed (drafting S) es ≡ feed (drafting T) fs = fed_alike (drafting S) (drafting T) es fs e n k in (
        (along S).told_so s null es r ∙ ap (answers plain_machine null) same ∙ sym ((along T).told_so t null fs q),
        run_decoded S s es b r ∙ ap (tree plain_machine null) same ∙ sym (run_decoded T t fs c q),
      );
  nesting = nesting;
  first_offers_stay = first_stay;
}
