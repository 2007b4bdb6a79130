-- Texts and what they come to, worked out by the checker: page 02, 'Ask 14', and the cases of docs/DECISIONS.md 82 to 87. Assumes nothing.
use Prim.Native.Nat.{ℕ}
use mathlib.Core.Path.{◌≡◌, refl}
use mathlib.Core.List.{List, [], ◌∷◌}
use Rattle.common.specs.Sums.{first_of}
use Rattle.text.specs.Text.{word, places, holds, width_of, decimal}
use Rattle.sheet_rules.specs.Sheets.{sheet_of, message_of}
use Rattle.sheet_text.specs.Answers.{export_answer, export_bytes, import_answer, import_bytes}
use Rattle.std.specs.declared.result.Result.TheVariants.{Ok, Err}
use Rattle.common.specs.Checks.{refusal}

-- 01 01 and one stream of 203, 1,000 and 1,000 bp
abbrev one : List ℕ
one = 1 ∷ 1 ∷ 2 ∷ 1 ∷ 0 ∷ 203 ∷ 0 ∷ 0 ∷ 3 ∷ 232 ∷ 0 ∷ 0 ∷ 3 ∷ 232 ∷ []

abbrev one_text : List ℕ
one_text = word "pnet-segment,1\npnet-stream,1,203 bp,1000 bp,1000 bp\n"

-- the page's line; 52 bytes of text, 14 of a sheet
out_and_in : (export_answer 52 one ≡ Ok 52) × (export_bytes (word "....................................................  ") one ≡ word "pnet-segment,1\npnet-stream,1,203 bp,1000 bp,1000 bp\n  ")
    × (import_answer 14 one_text ≡ Ok 14)
unfolding export_answer export_bytes import_answer import_bytes sheet_of decimal width_of holds first_of places
out_and_in = (refl, refl, refl)

-- no room, by a byte
no_room : (export_answer 51 one ≡ Err (refusal 13 52)) × (import_answer 13 one_text ≡ Err (refusal 13 14)) × (import_bytes (9 ∷ []) one_text ≡ 9 ∷ [])
unfolding export_answer export_bytes import_answer import_bytes sheet_of decimal width_of holds first_of places
no_room = (refl, refl, refl)

-- all lines first; then the sheet
lines_first : (import_answer 99 (word "pnet-segment,0\nx\n") ≡ Err (refusal 23 2)) × (import_answer 99 (word "pnet-segment,0\n") ≡ Err (refusal 4 0))
    × (import_answer 99 (word "x\npnet-stream,1,9 bp,999 bp,999 bp") ≡ Err (refusal 23 1))
unfolding export_answer export_bytes import_answer import_bytes sheet_of decimal width_of holds first_of places
lines_first = (refl, refl, refl)

-- the empty text, an empty line, a last line without its end
ends : (import_answer 99 [] ≡ Err (refusal 1 0)) × (import_answer 99 (word "\n") ≡ Err (refusal 23 1))
    × (import_answer 99 (word "pnet-segment,2\npnet-stream,1,9 bp,999 bp,999 bp") ≡ Err (refusal 23 2))
unfolding export_answer export_bytes import_answer import_bytes sheet_of decimal width_of holds first_of places
ends = (refl, refl, refl)

-- too big for its bytes, and in them but out of range
too_big : (import_answer 99 (word "pnet-segment,256\n") ≡ Err (refusal 23 1)) × (import_answer 99 (word "pnet-segment,33\n") ≡ Err (refusal 4 0))
    × (import_answer 99 (word "pnet-segment,2\npnet-stream,1,65535 bp,9 bp,9 bp\n") ≡ Err (refusal 4 2))
    × (import_answer 99 (word "pnet-segment,2\npnet-stream,1,65536 bp,9 bp,9 bp\n") ≡ Err (refusal 23 2))
unfolding export_answer export_bytes import_answer import_bytes sheet_of decimal width_of holds first_of places
too_big = (refl, refl, refl, refl)

-- a leading zero, a unit that is missing, one of the wrong kind, the word of a kind that has not landed
not_of_the_form : (import_answer 99 (word "pnet-segment,00\n") ≡ Err (refusal 23 1)) × (import_answer 99 (word "worldfip-exchange,184\n") ≡ Err (refusal 23 1))
    × (import_answer 99 (word "worldfip-exchange,184 bp\n") ≡ Err (refusal 23 1))
    × (import_answer 99 (word "pnet-segment,2\nprofibus-ring,2,500 bp,300 bp\n") ≡ Err (refusal 23 2))
unfolding export_answer export_bytes import_answer import_bytes sheet_of decimal width_of holds first_of places
not_of_the_form = (refl, refl, refl, refl)

-- by edition 2, without a stream, by another edition, with a unit, and where it may not stand
by_edition : (import_answer 99 (word "pnet-segment,2\npnet-edition,2\npnet-stream,1,9 bp,99 bp,99 bp\n") ≡ Ok 16)
    × (import_answer 99 (word "pnet-segment,2\npnet-edition,2\n") ≡ Err (refusal 6 4))
    × (import_answer 99 (word "pnet-segment,2\npnet-edition,3\n") ≡ Err (refusal 4 2))
    × (import_answer 99 (word "pnet-segment,2\npnet-edition,2 bp\n") ≡ Err (refusal 23 2))
    × (import_answer 99 (word "worldfip-exchange,184 us\npnet-edition,1\n") ≡ Err (refusal 3 5))
unfolding export_answer export_bytes import_answer import_bytes sheet_of decimal width_of holds first_of places
by_edition = (refl, refl, refl, refl, refl)

-- with release jitter, and with J past T - D
jittered : (import_answer 99 (word "pnet-segment,2\npnet-jitter-stream,1,9 bp,99 bp,9 bp,90 bp\n") ≡ Ok 18)
    × (import_answer 99 (word "pnet-segment,2\npnet-jitter-stream,1,9 bp,99 bp,9 bp,91 bp\n") ≡ Err (refusal 4 2))
unfolding export_answer export_bytes import_answer import_bytes sheet_of decimal width_of holds first_of places
jittered = (refl, refl)

-- export reads first; a ring of kind 3 has no text
kind_three : (export_answer 99 (3 ∷ []) ≡ Err (refusal 1 0)) × (export_answer 99 (3 ∷ 1 ∷ 0 ∷ 0 ∷ 0 ∷ 1 ∷ 0 ∷ 0 ∷ 0 ∷ 1 ∷ []) ≡ Err (refusal 6 10))
    × (export_answer 0 (3 ∷ 1 ∷ 0 ∷ 0 ∷ 0 ∷ 1 ∷ 0 ∷ 0 ∷ 0 ∷ 1 ∷ 4 ∷ 1 ∷ 0 ∷ 0 ∷ 0 ∷ 1 ∷ 0 ∷ 0 ∷ 3 ∷ 232 ∷ []) ≡ Err (refusal 2 0))
unfolding export_answer export_bytes import_answer import_bytes sheet_of message_of decimal width_of holds first_of places
kind_three = (refl, refl, refl)

-- a ring whose masters each have their own, the second first; and one that lacks master 1's
own_messages : (import_answer 99 (word "profibus-ring,2,100 bp\nprofibus-message,2,9 bp\nprofibus-message,1,8 bp\nprofibus-stream,1,8 bp,999 bp\n") ≡ Ok 28)
    × (import_answer 99 (word "profibus-ring,2,100 bp\nprofibus-message,2,9 bp\nprofibus-stream,2,8 bp,999 bp\n") ≡ Err (refusal 20 12))
    × (import_answer 99 (word "profibus-ring,2,100 bp\n") ≡ Err (refusal 20 6))
unfolding export_answer export_bytes import_answer import_bytes sheet_of message_of decimal width_of holds first_of places
own_messages = (refl, refl, refl)
