-- `any_in` compares the places of the two keys. Assumes nothing.
use Rattle.rows_runs.proofs.any_in.Goals as goal

pub returns : goal.returns
returns c = λ rows H. rw (c.lower_bound.ensures.ranked rows H, c.lower_bound-2.ensures.ranked rows H)
