-- The measure is the number itself: the digits before the last are those of a tenth of it.
use Rattle.out.proofs.Page.+put_decimal.Given as goal

abbrev pub decreases-put_decimal : goal.decreases-put_decimal
decreases-put_decimal l = l.n
