-- Nothing is there, and the offers are the first ones.
use Rattle.std.proofs.Common.{sym, refl, ◌∙◌, subst}
use Rattle.law.specs.Law.{Offered}
use Rattle.message.proofs.draft.Draft.begin.Goals as goal

pub returns : goal.returns
returns g c =
    let t = c.take_back.ensures in
    let same = t.offers ∙ sym t.first in
    record {
      begun = record {
        valued = (c.take_back.new.self, refl);
        no_segments = t.segments;
        no_table = c.new.ensures.value;
        offers_first = same;
        offered = subst Offered same (g.S.Source.bounds c.take_back.new.self);
      };
      first = t.first;
    }
