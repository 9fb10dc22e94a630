-- Words and table go back together.
use Rattle.std.proofs.Common.{ℕ, List, map, length, sym, ap, ◌∙◌, subst}
use Rattle.table.specs.Meaning.{table_of}
use Rattle.arena.specs.Zeroed.{Rewound}
use Rattle.arena.proofs.Rewind.{rewound_is, rewound_sizes}
use Rattle.arena.proofs.BuilderArena.roll_back.Goals as goal

pub returns : goal.returns
returns g c =
    let m : List (List ℕ) = g.S.Reading.segments c.args.self.now.source in
    record {
      words = subst (λ (n : List (List ℕ)). Rewound m n (table_of c.args.self.now.table) (table_of c.args.mark.now)) (sym c.rewind_words.ensures.words) (rewound_is m (table_of c.args.self.now.table) (table_of c.args.mark.now));
      sizes = ap (map length) c.rewind_words.ensures.words ∙ rewound_sizes m (table_of c.args.self.now.table) (table_of c.args.mark.now) (length (table_of c.args.self.now.table));
      table = c.roll_back.ensures.after;
      steady = c.rewind_words.ensures.steady;
    }
