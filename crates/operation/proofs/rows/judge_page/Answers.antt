-- `operation::judge_page` meets its contract: what each arm holds is computed to be the paper's row for an invoke, and where no arm has one the
-- paper has none.
use mathlib.Core.Path.{refl}
use Rattle.operation.specs.Row.{key, members, some_of, among, asks_nothing, group_last}
use Rattle.operation.specs.Finding.{rowed, row_of, find}
use Rattle.operation.specs.Rows.{operations}
use Rattle.operation.specs.inner.Coded.{keys_in, word_of, words_from, words_of, apart, must_of, group_of, between, choice, sound}
use Rattle.operation.proofs.Settling.{arm}
use Rattle.operation.proofs.Verdicts.{no_invoke}
use Rattle.operation.proofs.rows.judge_page.Goals as goal

pub returns-in-32 : goal.returns-in-32
unfolding row_of rowed find operations key members keys_in word_of words_from words_of some_of among apart must_of group_of asks_nothing group_last between choice sound
returns-in-32 c = arm 0xE9 c.in-32.is refl refl refl refl refl c.judge.ensures

pub returns-in-101 : goal.returns-in-101
unfolding row_of rowed find operations key members keys_in word_of words_from words_of some_of among apart must_of group_of asks_nothing group_last between choice sound
returns-in-101 c = arm 0xE9 c.in-101.is refl refl refl refl refl c.judge-in-101.ensures

pub returns-in_default : goal.returns-in_default
returns-in_default c = no_invoke _ c.requires c.in_default.in_default-own.rest
