-- The claims of specs/Claims.antt. Assumes nothing.
use mathlib.Core.Path.{◌∙◌}
use Rattle.reader.specs.Claims.{LineRead, FreshRead}
use Rattle.reader.proofs.Resume.{finished_joined}
use Rattle.reader.proofs.Short.{line_joined}
use Rattle.reader.proofs.Fresh.{fresh_empty}

pub line_read : LineRead
line_read l = finished_joined l ∙ line_joined l

pub fresh_read : FreshRead
fresh_read = fresh_empty
