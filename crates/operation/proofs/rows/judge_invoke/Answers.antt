-- `operation::judge_invoke` meets its contract: what each arm holds is computed to be the paper's row for an invoke; the others are `judge_page`'s.
use mathlib.Core.Path.{refl}
use Rattle.operation.specs.Row.{key, members, some_of, among, asks_nothing, group_last}
use Rattle.operation.specs.Finding.{rowed, row_of, find}
use Rattle.operation.specs.Rows.{operations}
use Rattle.operation.specs.inner.Coded.{keys_in, word_of, words_from, words_of, apart, must_of, group_of, between, choice, sound}
use Rattle.operation.proofs.Settling.{arm}
use Rattle.operation.proofs.rows.judge_invoke.Goals as goal

pub returns-in-4 : goal.returns-in-4
unfolding row_of rowed find operations key members keys_in word_of words_from words_of some_of among apart must_of group_of asks_nothing group_last between choice sound
returns-in-4 c = arm 0xE9 c.in-4.is refl refl refl refl refl c.judge.ensures

pub returns-in-13 : goal.returns-in-13
unfolding row_of rowed find operations key members keys_in word_of words_from words_of some_of among apart must_of group_of asks_nothing group_last between choice sound
returns-in-13 c = arm 0xE9 c.in-13.is refl refl refl refl refl c.judge-in-13.ensures

pub returns-in-15 : goal.returns-in-15
unfolding row_of rowed find operations key members keys_in word_of words_from words_of some_of among apart must_of group_of asks_nothing group_last between choice sound
returns-in-15 c = arm 0xE9 c.in-15.is refl refl refl refl refl c.judge-in-15.ensures

pub returns-in-37 : goal.returns-in-37
unfolding row_of rowed find operations key members keys_in word_of words_from words_of some_of among apart must_of group_of asks_nothing group_last between choice sound
returns-in-37 c = arm 0xE9 c.in-37.is refl refl refl refl refl c.judge-in-37.ensures

pub returns-in_default : goal.returns-in_default
returns-in_default c = c.judge_page.ensures
