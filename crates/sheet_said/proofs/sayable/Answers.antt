-- `sheet_said::sayable` meets its contract: each arm has the widths of its kind's fields. A field of four bytes holds every number of 32 bits.
use mathlib.Core.Path.{◌≡◌, sym}
use mathlib.Core.Bool.{true, and_assoc, and-true}
use native.Mathlib.Omega.{arith}
use borrow.Author.Tests.{lt-ltb}
use borrow.Author.Rules.{rules}
use lib.Dec.{ltb}
use Rattle.sheet_record.specs.Kinds.{kinds, line_of, fields_of}
use Rattle.sheet_line.specs.Lines.{word_of, has_word, in_bytes}
use Rattle.sheet_line.proofs.Lines.{left_out, judged_by, not_sayable, below_next}
use Rattle.sheet_said.proofs.sayable.Goals as goal

pub returns-in-1 : goal.returns-in-1
unfolding has_word word_of in_bytes fields_of line_of kinds
returns-in-1 c = let r = c.args.r in rw (judged_by 1 r c.in-1.is, below_next r.a 255) (simp (and_assoc, and-true))

pub returns-in-2 : goal.returns-in-2
unfolding has_word word_of in_bytes fields_of line_of kinds
returns-in-2 c =
    let r = c.args.r in
    let x : ltb r.c 4294967296 ≡ true = lt-ltb r.c 4294967296 (omega arith) in
    let y : ltb r.d 4294967296 ≡ true = lt-ltb r.d 4294967296 (omega arith) in
    rw (judged_by 2 r c.in-2.is, below_next r.a 255, below_next r.b 65535, x, y) (simp (and_assoc, and-true))

pub returns-in-4 : goal.returns-in-4
unfolding has_word word_of in_bytes fields_of line_of kinds
returns-in-4 c =
    let r = c.args.r in
    let x : ltb r.b 4294967296 ≡ true = lt-ltb r.b 4294967296 (omega arith) in
    let y : ltb r.c 4294967296 ≡ true = lt-ltb r.c 4294967296 (omega arith) in
    rw (judged_by 4 r c.in-4.is, below_next r.a 255, x, y) (simp (and_assoc, and-true))

pub returns-in-5 : goal.returns-in-5
unfolding has_word word_of in_bytes fields_of line_of kinds
returns-in-5 c =
    let r = c.args.r in
    let x : ltb r.a 4294967296 ≡ true = lt-ltb r.a 4294967296 (omega arith) in
    rw (judged_by 5 r c.in-5.is, x) (simp (and_assoc, and-true))

pub returns-in-6 : goal.returns-in-6
unfolding has_word word_of in_bytes fields_of line_of kinds
returns-in-6 c =
    let r = c.args.r in
    let x : ltb r.b 4294967296 ≡ true = lt-ltb r.b 4294967296 (omega arith) in
    rw (judged_by 6 r c.in-6.is, below_next r.a 65535, x) (simp (and_assoc, and-true))

pub returns-in-7 : goal.returns-in-7
unfolding has_word word_of in_bytes fields_of line_of kinds
returns-in-7 c =
    let r = c.args.r in
    let x : ltb r.c 4294967296 ≡ true = lt-ltb r.c 4294967296 (omega arith) in
    let y : ltb r.d 4294967296 ≡ true = lt-ltb r.d 4294967296 (omega arith) in
    let z : ltb r.e 4294967296 ≡ true = lt-ltb r.e 4294967296 (omega arith) in
    rw (judged_by 7 r c.in-7.is, below_next r.a 255, below_next r.b 65535, x, y, z) (simp (and_assoc, and-true))

pub returns-in-8 : goal.returns-in-8
unfolding has_word word_of in_bytes fields_of line_of kinds
returns-in-8 c = let r = c.args.r in rw (judged_by 8 r c.in-8.is, below_next r.a 255) (simp (and_assoc, and-true))

pub returns-in-9 : goal.returns-in-9
unfolding has_word word_of in_bytes fields_of line_of kinds
returns-in-9 c =
    let r = c.args.r in
    let x : ltb r.b 4294967296 ≡ true = lt-ltb r.b 4294967296 (omega arith) in
    rw (judged_by 9 r c.in-9.is, below_next r.a 255, x) (simp (and_assoc, and-true))

pub returns-in-10 : goal.returns-in-10
unfolding has_word word_of in_bytes fields_of line_of kinds
returns-in-10 c =
    let r = c.args.r in
    let x : ltb r.b 4294967296 ≡ true = lt-ltb r.b 4294967296 (omega arith) in
    rw (judged_by 10 r c.in-10.is, below_next r.a 255, x) (simp (and_assoc, and-true))

pub returns-in_default : goal.returns-in_default
returns-in_default c = sym (not_sayable c.args.r (search (rules, left_out)))
