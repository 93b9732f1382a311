use Rattle.safebound_top.proofs.TextSteps.{file_cut, file_wrote}
use Rattle.safebound_top.proofs.texts.write_file.Goals as goal

pub returns-in-Ok : goal.returns-in-Ok
returns-in-Ok g c notes outcome still none its = file_wrote _ notes outcome still _ none its tt c.in-Ok.ensures

pub returns-in-Err : goal.returns-in-Err
returns-in-Err g c notes outcome still none its = file_cut _ notes outcome still _ none its _ c.in-Err.ensures
