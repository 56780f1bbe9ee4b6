use Rattle.std.proofs.Common.{rules}
use Rattle.xmt_top.specs.Messages.{bytes_line}
use Rattle.xmt_top.proofs.messages.bytes_line.Goals as goal

pub returns-in-TooLong : goal.returns-in-TooLong
unfolding bytes_line
returns-in-TooLong c = search (rules, c.faulty_file.ensures)

pub returns-in-BadImage : goal.returns-in-BadImage
unfolding bytes_line
returns-in-BadImage c = search (rules, c.faulty_file-in-BadImage.ensures, c.load_name.ensures)

pub returns-in_ok-fault-in-BadMap : goal.returns-in_ok-fault-in-BadMap
unfolding bytes_line
returns-in_ok-fault-in-BadMap c = search (rules, c.faulty_file-in-BadMap.ensures, c.as_str.ensures.value, c.map_text.ensures)
