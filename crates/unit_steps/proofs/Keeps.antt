-- The units of a valid image keep what fits.
use Rattle.xmt_isa.specs.declared.image.Image.{Image}
use Rattle.xmt_isa.specs.Valid.{IsValid}
use Rattle.unit_steps.specs.Keeps.{KeepsFit}
use Rattle.unit_steps.proofs.Master.{same_next, master_fits}
use Rattle.unit_steps.proofs.Beginnings.{begin_fits}
use Rattle.unit_steps.proofs.Kept.{alone_fits, halts_by, reply_fits}
use Rattle.unit_steps.proofs.Live.{ask_fits, ready_fits, stands_soundly, asked_there, spawns_at, prints_at, draws_other}

pub keeps_fit : (image : Image) → IsValid image → KeepsFit image
keeps_fit image valid = record {
  begin = begin_fits image valid;
  alone = λ start u has fits rests runs is. alone_fits image valid start u fits runs rests is;
  ask = λ start u ask fits live other is. ask_fits image start u fits ask live other is;
  reply = λ start u reply has fits waits. reply_fits image valid start u fits has reply waits;
  ready = λ start other u fits stopped. ready_fits image start u fits other stopped;
  master = λ start other u zero fits. (master_fits image start other u zero fits, same_next image start other u zero);
  stands = λ start u fits runs. stands_soundly image start u fits valid runs;
  there = λ start u ask has fits live is. asked_there image start u fits valid ask has live is;
  spawns = λ start u ask fits live is. spawns_at image start u fits valid ask live is;
  prints = λ start u text fits live is. prints_at image start u fits valid text live is;
  draws = λ start u fits live other is. draws_other image start u fits valid live other is;
  halts = λ start u fits runs is. halts_by image valid start u fits runs is;
}
