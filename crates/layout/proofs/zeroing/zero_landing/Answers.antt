-- The words that the object and its pads take.
use Rattle.walk.specs.Landings.{landing_of}
use Rattle.walk.specs.Shapes.{shape_meant}
use Rattle.layout.proofs.Lengths.{lengths_by}
use Rattle.layout.proofs.Emptying.{empties_by}
use Rattle.layout.proofs.zeroing.zero_landing.Goals as goal

pub returns-clause-own : goal.returns-clause-own
returns-clause-own g c =
    empties_by (g.S.Reading.segments c.args.source.now) (g.S.Reading.segments c.zero_spans.new.source) (landing_of c.args.held.landing) (shape_meant c.args.held.shape) c.zero_spans.ensures.words

pub returns-clause-lengths : goal.returns-clause-lengths
returns-clause-lengths g c =
    lengths_by (g.S.Reading.segments c.args.source.now) (g.S.Reading.segments c.zero_spans.new.source) (landing_of c.args.held.landing) (shape_meant c.args.held.shape) c.zero_spans.ensures.words
