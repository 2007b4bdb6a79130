-- `text_hex::digit` meets its contract.
use mathlib.Core.Path.{refl}
use borrow.Author.Tests.{lt-ltb, le-ltb, le-leb, lt-leb}
use Rattle.text_hex.specs.Hex.{value_of}
use Rattle.text_hex.proofs.digit.Goals as goal

pub returns-then-b-lt48 : goal.returns-then-b-lt48
unfolding value_of
returns-then-b-lt48 c = rw (lt-ltb _ 48 c.if-b-lt48.true) refl

pub returns-then-b-le57 : goal.returns-then-b-le57
unfolding value_of
returns-then-b-le57 c = rw (le-ltb _ 48 c.if-b-lt48.false, le-leb _ 57 c.if-b-le57.true) refl

pub returns-then-b-lt97 : goal.returns-then-b-lt97
unfolding value_of
returns-then-b-lt97 c = rw (le-ltb _ 48 c.if-b-lt48.false, lt-leb _ 57 c.if-b-le57.false, lt-ltb _ 97 c.if-b-lt97.true) refl

pub returns-then-b-le102 : goal.returns-then-b-le102
unfolding value_of
returns-then-b-le102 c =
    rw (le-ltb _ 48 c.if-b-lt48.false, lt-leb _ 57 c.if-b-le57.false, le-ltb _ 97 c.if-b-lt97.false, le-leb _ 102 c.if-b-le102.true) refl

pub returns : goal.returns
unfolding value_of
returns c =
    rw (le-ltb _ 48 c.if-b-lt48.false, lt-leb _ 57 c.if-b-le57.false, le-ltb _ 97 c.if-b-lt97.false, lt-leb _ 102 c.if-b-le102.false) refl
