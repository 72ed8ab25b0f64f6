-- `package::carried_by` meets its contract.
use Rattle.package.specs.Carriage.{line_of, lines, others}
use Rattle.package.proofs.Carrying.{found, no_line}
use Rattle.package.proofs.carriage.carried_by.Goals as goal

pub returns-in-2 : goal.returns-in-2
unfolding line_of lines others
returns-in-2 c = found _ c.in-2.is c.pick.ensures

pub returns-in-3 : goal.returns-in-3
unfolding line_of lines others
returns-in-3 c = found _ c.in-3.is c.pick-in-3.ensures

pub returns-in-36 : goal.returns-in-36
unfolding line_of lines others
returns-in-36 c = found _ c.in-36.is c.pick-in-36.ensures

pub returns-in-50 : goal.returns-in-50
unfolding line_of lines others
returns-in-50 c = found _ c.in-50.is c.pick-in-50.ensures

pub returns-in-58 : goal.returns-in-58
unfolding line_of lines others
returns-in-58 c = found _ c.in-58.is c.pick-in-58.ensures

pub returns-in-65 : goal.returns-in-65
unfolding line_of lines others
returns-in-65 c = found _ c.in-65.is c.pick-in-65.ensures

pub returns-in-66 : goal.returns-in-66
unfolding line_of lines others
returns-in-66 c = found _ c.in-66.is c.pick-in-66.ensures

pub returns-in-67 : goal.returns-in-67
unfolding line_of lines others
returns-in-67 c = found _ c.in-67.is c.pick-in-67.ensures

pub returns-in-69 : goal.returns-in-69
unfolding line_of lines others
returns-in-69 c = found _ c.in-69.is c.pick-in-69.ensures

pub returns-in-71 : goal.returns-in-71
unfolding line_of lines others
returns-in-71 c = found _ c.in-71.is c.pick-in-71.ensures

pub returns-in-73 : goal.returns-in-73
unfolding line_of lines others
returns-in-73 c = found _ c.in-73.is c.pick-in-73.ensures

pub returns-in-74 : goal.returns-in-74
unfolding line_of lines others
returns-in-74 c = found _ c.in-74.is c.pick-in-74.ensures

pub returns-in-78 : goal.returns-in-78
unfolding line_of lines others
returns-in-78 c = found _ c.in-78.is c.pick-in-78.ensures

pub returns-in_default : goal.returns-in_default
unfolding line_of lines others
returns-in_default c = no_line _ c.in_default.in_default-own.rest c.pick-in_default.ensures
