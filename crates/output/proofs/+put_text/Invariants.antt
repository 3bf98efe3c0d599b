-- `put_text` meets its contract. Assumes nothing.
use Rattle.output.proofs.+put_text.Given as goal

abbrev pub decreases-put_text : goal.decreases-put_text
decreases-put_text l = l.k
