-- `word_of` meets its contract: each number that the match tells apart is a word's letters packed. Assumes nothing.
use mathlib.Core.Path.{sym, ap}
use Rattle.bits.specs.Words.{when◌then◌else◌}
use Rattle.std.proofs.Common.{rules, tests}
use Rattle.reader.specs.Reader.{word_of}
use Rattle.reader.proofs.word_of.Goals as goal

-- a number that is none of them
pub returns-in_default : goal.returns-in_default
unfolding word_of when◌then◌else◌
returns-in_default c =
    search (tests, rules)

pub returns-in-491495646579 : goal.returns-in-491495646579
unfolding word_of when◌then◌else◌
returns-in-491495646579 c = sym (ap word_of c.in-491495646579.is)

pub returns-in-30506450281915237 : goal.returns-in-30506450281915237
unfolding word_of when◌then◌else◌
returns-in-30506450281915237 c = sym (ap word_of c.in-30506450281915237.is)

pub returns-in-418263299685 : goal.returns-in-418263299685
unfolding word_of when◌then◌else◌
returns-in-418263299685 c = sym (ap word_of c.in-418263299685.is)

pub returns-in-123581013780852 : goal.returns-in-123581013780852
unfolding word_of when◌then◌else◌
returns-in-123581013780852 c = sym (ap word_of c.in-123581013780852.is)

pub returns-in-427020345714 : goal.returns-in-427020345714
unfolding word_of when◌then◌else◌
returns-in-427020345714 c = sym (ap word_of c.in-427020345714.is)

pub returns-in-465490306412 : goal.returns-in-465490306412
unfolding word_of when◌then◌else◌
returns-in-465490306412 c = sym (ap word_of c.in-465490306412.is)

pub returns-in-7501166 : goal.returns-in-7501166
unfolding word_of when◌then◌else◌
returns-in-7501166 c = sym (ap word_of c.in-7501166.is)

pub returns-in-1869636974 : goal.returns-in-1869636974
unfolding word_of when◌then◌else◌
returns-in-1869636974 c = sym (ap word_of c.in-1869636974.is)

pub returns-in-427021005669 : goal.returns-in-427021005669
unfolding word_of when◌then◌else◌
returns-in-427021005669 c = sym (ap word_of c.in-427021005669.is)

pub returns-in-495873782388 : goal.returns-in-495873782388
unfolding word_of when◌then◌else◌
returns-in-495873782388 c = sym (ap word_of c.in-495873782388.is)

pub returns-in-6647396 : goal.returns-in-6647396
unfolding word_of when◌then◌else◌
returns-in-6647396 c = sym (ap word_of c.in-6647396.is)

pub returns-in-7017580640679851109 : goal.returns-in-7017580640679851109
unfolding word_of when◌then◌else◌
returns-in-7017580640679851109 c = sym (ap word_of c.in-7017580640679851109.is)

pub returns-in-1685221232 : goal.returns-in-1685221232
unfolding word_of when◌then◌else◌
returns-in-1685221232 c = sym (ap word_of c.in-1685221232.is)

pub returns-in-107148485420910 : goal.returns-in-107148485420910
unfolding word_of when◌then◌else◌
returns-in-107148485420910 c = sym (ap word_of c.in-107148485420910.is)

pub returns-in-7234295524925990766 : goal.returns-in-7234295524925990766
unfolding word_of when◌then◌else◌
returns-in-7234295524925990766 c = sym (ap word_of c.in-7234295524925990766.is)

pub returns-in-444300619380 : goal.returns-in-444300619380
unfolding word_of when◌then◌else◌
returns-in-444300619380 c = sym (ap word_of c.in-444300619380.is)

pub returns-in-125780104276837 : goal.returns-in-125780104276837
unfolding word_of when◌then◌else◌
returns-in-125780104276837 c = sym (ap word_of c.in-125780104276837.is)

pub returns-in-32199625039765874 : goal.returns-in-32199625039765874
unfolding word_of when◌then◌else◌
returns-in-32199625039765874 c = sym (ap word_of c.in-32199625039765874.is)
