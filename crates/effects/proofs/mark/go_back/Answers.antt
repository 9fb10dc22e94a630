-- Words and counts as they were at the mark.
use Rattle.std.proofs.Common.{sym, ap, ◌∙◌, subst}
use Rattle.table.specs.Segments.{Table}
use Rattle.table.specs.Meaning.{table_of, rolled_back}
use Rattle.arena.specs.Zeroed.{Rewound}
use Rattle.effects.proofs.Writing.{within_capacity}
use Rattle.effects.proofs.Marks.{Filled, table_back, words_back}
use Rattle.effects.proofs.mark.go_back.Goals as goal

pub returns : goal.returns
returns g c = record {
  back = λ m met is sized clean prepared caps.
      let r = c.roll_back.ensures in
      let t : Table = table_of c.args.arena.now.table in
      let full : Filled m.table = subst Filled (sym is) (λ x. (within_capacity c.args.mark.now x).0) in
      record {
        table_is = r.table ∙ (ap (rolled_back t) (sym is) ∙ table_back t m.table met caps full);
        segments_are = words_back m _ _ met sized clean prepared caps (subst (Rewound _ _ t) (sym is) r.words) r.sizes;
        same_offers = r.steady.offers;
        same_first = r.steady.first;
      };
}
