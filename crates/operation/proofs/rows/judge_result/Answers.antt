-- `operation::judge_result` meets its contract: what each arm holds is computed to be the paper's row for a return result, and where no arm has one the
-- paper has none.
use mathlib.Core.Path.{refl}
use Rattle.operation.specs.Row.{key, members, some_of, among, asks_nothing, group_last}
use Rattle.operation.specs.Finding.{rowed, row_of, find}
use Rattle.operation.specs.Rows.{operations}
use Rattle.operation.specs.inner.Coded.{keys_in, word_of, words_from, words_of, apart, must_of, group_of, between, choice, sound}
use Rattle.operation.proofs.Settling.{arm}
use Rattle.operation.proofs.Verdicts.{no_result}
use Rattle.operation.proofs.rows.judge_result.Goals as goal

pub returns-in-4 : goal.returns-in-4
unfolding row_of rowed find operations key members keys_in word_of words_from words_of some_of among apart must_of group_of asks_nothing group_last between choice sound
returns-in-4 c = arm 0xEA c.in-4.is refl refl refl refl refl c.judge.ensures

pub returns-in-13 : goal.returns-in-13
unfolding row_of rowed find operations key members keys_in word_of words_from words_of some_of among apart must_of group_of asks_nothing group_last between choice sound
returns-in-13 c = arm 0xEA c.in-13.is refl refl refl refl refl c.judge-in-13.ensures

pub returns-in-14 : goal.returns-in-14
unfolding row_of rowed find operations key members keys_in word_of words_from words_of some_of among apart must_of group_of asks_nothing group_last between choice sound
returns-in-14 c = arm 0xEA c.in-14.is refl refl refl refl refl c.judge-in-14.ensures

pub returns-in-26 : goal.returns-in-26
unfolding row_of rowed find operations key members keys_in word_of words_from words_of some_of among apart must_of group_of asks_nothing group_last between choice sound
returns-in-26 c = arm 0xEA c.in-26.is refl refl refl refl refl c.judge-in-26.ensures

pub returns-in-64 : goal.returns-in-64
unfolding row_of rowed find operations key members keys_in word_of words_from words_of some_of among apart must_of group_of asks_nothing group_last between choice sound
returns-in-64 c = arm 0xEA c.in-64.is refl refl refl refl refl c.judge-in-64.ensures

pub returns-in-101 : goal.returns-in-101
unfolding row_of rowed find operations key members keys_in word_of words_from words_of some_of among apart must_of group_of asks_nothing group_last between choice sound
returns-in-101 c = arm 0xEA c.in-101.is refl refl refl refl refl c.judge-in-101.ensures

pub returns-in_default : goal.returns-in_default
returns-in_default c = no_result _ c.in_default.in_default-own.rest
