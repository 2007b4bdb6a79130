-- Page 01, 'Promises that exclude idle programs': any two outcomes that a contract allows are equal. A contract here says that the
-- answer, and each lent memory at exit, equals a definition's value; so the law is one, for any answer and any memory.
-- Assumes nothing.
use mathlib.Core.Path.{◌≡◌, sym, ◌∙◌}

pub two_outcomes_are_equal : {A : Type 0} {meant r r' : A} → r ≡ meant → r' ≡ meant → r ≡ r'
two_outcomes_are_equal p q = p ∙ sym q
