-- `sheet_said::kind_in` meets its contract: the table's words, each with its comma, one after another.
use mathlib.Core.Path.{refl, sym, ◌∙◌}
use Rattle.sheet_said.proofs.Cells.{kind_tests}
use Rattle.sheet_said.proofs.kind_in.Goals as goal

pub returns-then-begins : goal.returns-then-begins
returns-then-begins c =
    rw (
      kind_tests _,
      sym c.begins.ensures ∙ c.if-begins.true,
    ) refl

pub returns-then-begins-2 : goal.returns-then-begins-2
returns-then-begins-2 c =
    rw (
      kind_tests _,
      sym c.begins.ensures ∙ c.if-begins.false,
      sym c.begins-2.ensures ∙ c.if-begins-2.true,
    ) refl

pub returns-then-begins-3 : goal.returns-then-begins-3
returns-then-begins-3 c =
    rw (
      kind_tests _,
      sym c.begins.ensures ∙ c.if-begins.false,
      sym c.begins-2.ensures ∙ c.if-begins-2.false,
      sym c.begins-3.ensures ∙ c.if-begins-3.true,
    ) refl

pub returns-then-begins-4 : goal.returns-then-begins-4
returns-then-begins-4 c =
    rw (
      kind_tests _,
      sym c.begins.ensures ∙ c.if-begins.false,
      sym c.begins-2.ensures ∙ c.if-begins-2.false,
      sym c.begins-3.ensures ∙ c.if-begins-3.false,
      sym c.begins-4.ensures ∙ c.if-begins-4.true,
    ) refl

pub returns-then-begins-5 : goal.returns-then-begins-5
returns-then-begins-5 c =
    rw (
      kind_tests _,
      sym c.begins.ensures ∙ c.if-begins.false,
      sym c.begins-2.ensures ∙ c.if-begins-2.false,
      sym c.begins-3.ensures ∙ c.if-begins-3.false,
      sym c.begins-4.ensures ∙ c.if-begins-4.false,
      sym c.begins-5.ensures ∙ c.if-begins-5.true,
    ) refl

pub returns-then-begins-6 : goal.returns-then-begins-6
returns-then-begins-6 c =
    rw (
      kind_tests _,
      sym c.begins.ensures ∙ c.if-begins.false,
      sym c.begins-2.ensures ∙ c.if-begins-2.false,
      sym c.begins-3.ensures ∙ c.if-begins-3.false,
      sym c.begins-4.ensures ∙ c.if-begins-4.false,
      sym c.begins-5.ensures ∙ c.if-begins-5.false,
      sym c.begins-6.ensures ∙ c.if-begins-6.true,
    ) refl

pub returns-then-begins-7 : goal.returns-then-begins-7
returns-then-begins-7 c =
    rw (
      kind_tests _,
      sym c.begins.ensures ∙ c.if-begins.false,
      sym c.begins-2.ensures ∙ c.if-begins-2.false,
      sym c.begins-3.ensures ∙ c.if-begins-3.false,
      sym c.begins-4.ensures ∙ c.if-begins-4.false,
      sym c.begins-5.ensures ∙ c.if-begins-5.false,
      sym c.begins-6.ensures ∙ c.if-begins-6.false,
      sym c.begins-7.ensures ∙ c.if-begins-7.true,
    ) refl

pub returns-then-begins-8 : goal.returns-then-begins-8
returns-then-begins-8 c =
    rw (
      kind_tests _,
      sym c.begins.ensures ∙ c.if-begins.false,
      sym c.begins-2.ensures ∙ c.if-begins-2.false,
      sym c.begins-3.ensures ∙ c.if-begins-3.false,
      sym c.begins-4.ensures ∙ c.if-begins-4.false,
      sym c.begins-5.ensures ∙ c.if-begins-5.false,
      sym c.begins-6.ensures ∙ c.if-begins-6.false,
      sym c.begins-7.ensures ∙ c.if-begins-7.false,
      sym c.begins-8.ensures ∙ c.if-begins-8.true,
    ) refl

pub returns-then-begins-9 : goal.returns-then-begins-9
returns-then-begins-9 c =
    rw (
      kind_tests _,
      sym c.begins.ensures ∙ c.if-begins.false,
      sym c.begins-2.ensures ∙ c.if-begins-2.false,
      sym c.begins-3.ensures ∙ c.if-begins-3.false,
      sym c.begins-4.ensures ∙ c.if-begins-4.false,
      sym c.begins-5.ensures ∙ c.if-begins-5.false,
      sym c.begins-6.ensures ∙ c.if-begins-6.false,
      sym c.begins-7.ensures ∙ c.if-begins-7.false,
      sym c.begins-8.ensures ∙ c.if-begins-8.false,
      sym c.begins-9.ensures ∙ c.if-begins-9.true,
    ) refl

pub returns : goal.returns
returns c =
    rw (
      kind_tests _,
      sym c.begins.ensures ∙ c.if-begins.false,
      sym c.begins-2.ensures ∙ c.if-begins-2.false,
      sym c.begins-3.ensures ∙ c.if-begins-3.false,
      sym c.begins-4.ensures ∙ c.if-begins-4.false,
      sym c.begins-5.ensures ∙ c.if-begins-5.false,
      sym c.begins-6.ensures ∙ c.if-begins-6.false,
      sym c.begins-7.ensures ∙ c.if-begins-7.false,
      sym c.begins-8.ensures ∙ c.if-begins-8.false,
      sym c.begins-9.ensures ∙ c.if-begins-9.false,
    ) refl
