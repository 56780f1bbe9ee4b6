use Rattle.run_law.proofs.Cells.{all_lawful_over_cells, all_rise_over_cells}
use Rattle.run_law.proofs.Opening.{all_agree_at_first}
use Rattle.run_law.proofs.logs_are_lawful_over_cells.Goals as goal

pub returns : goal.returns
returns c = record { any_cells = all_lawful_over_cells; rising = all_rise_over_cells; of_a_program = all_agree_at_first }
