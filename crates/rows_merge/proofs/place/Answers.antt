-- `place` finds the row's place, moves what stands from there on up, and puts the row below it: a turn of `Steps`. Assumes nothing.
use Rattle.std.specs.Prelude.{refl}
use Rattle.rows_merge.proofs.Steps.{turn}
use Rattle.rows_merge.proofs.place.Goals as goal

pub returns-clause-placed : goal.returns-clause-placed
returns-clause-placed c =
    let a = c.args in
    λ rows more count m S M.
    turn rows more count m a.i a.j a.b.now a.src.now S M c.key_at-k.result c.below-p.result c.key_at-k.ensures c.below-p.ensures.within c.below-p.ensures.ranked c.requires.0
    _ c.move_up.new.b c.put_words.new.b refl c.move_up.ensures c.put_words.ensures
