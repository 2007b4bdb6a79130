-- Page 02, 'Ask 14': lines of records, and lines that are those of none, worked out by the checker. Assumes nothing.
use Prim.Native.String.{String}
use mathlib.Core.Path.{◌≡◌, refl}
use mathlib.Core.List.{[], ◌∷◌}
use Rattle.common.specs.Sums.{first_of}
use Rattle.text.specs.Text.{word, places, holds, width_of, decimal}
use Rattle.sheet_record.specs.declared.Record.{Record}
use Rattle.sheet_record.specs.Kinds.{nothing}
use Rattle.sheet_line.specs.Lines.{line_text}
use Rattle.sheet_line.proofs.Examples.{of}
use Rattle.sheet_said.specs.Said.{kind_in, record_in}

-- ---- A record and its line

-- t is the line of r, and says r
abbrev Line : String → Record → Type 0
Line t r = (line_text r ≡ word t) × (record_in (word t) ≡ r)

lines : Line "pnet-segment,4\n" (of 1 4 0 0 0) × Line "pnet-stream,1,203 bp,1000 bp,1000 bp\n" (of 2 1 203 1000 1000)
    × Line "profibus-stream,2,300 bp,52000 bp\n" (of 4 2 300 52000 0) × Line "worldfip-exchange,180 us\n" (of 5 180 0 0 0)
    × Line "worldfip-variable,17,2000 us\n" (of 6 17 2000 0 0)
unfolding record_in decimal width_of holds first_of places
lines = ((refl, refl), (refl, refl), (refl, refl), (refl, refl), (refl, refl))

with_jitter : Line "pnet-jitter-stream,2,203 bp,3000 bp,500 bp,2500 bp\n" (record { kind = 7; a = 2; b = 203; c = 3000; d = 500; e = 2500 })
unfolding record_in decimal width_of holds first_of places
with_jitter = (refl, refl)

-- an edition has no unit
by_edition : Line "pnet-edition,2\n" (of 8 2 0 0 0)
unfolding record_in decimal width_of holds first_of places
by_edition = (refl, refl)

-- a ring, and the longest message of one of its masters
by_message : Line "profibus-ring,2,100 bp\n" (of 9 2 100 0 0) × Line "profibus-message,1,500 bp\n" (of 10 1 500 0 0)
unfolding record_in decimal width_of holds first_of places
by_message = ((refl, refl), (refl, refl))

-- the least number, and the greatest that the bytes of each field hold
bounds : Line "pnet-segment,0\n" (of 1 0 0 0 0) × Line "pnet-stream,255,65535 bp,4294967295 bp,4294967295 bp\n" (of 2 255 65535 4294967295 4294967295)
unfolding record_in decimal width_of holds first_of places
bounds = ((refl, refl), (refl, refl))

-- ---- Lines of no record

abbrev None : String → Type 0
None t = record_in (word t) ≡ nothing

-- a zero in front, a blank too many or too few, no unit, another unit
numbers : None "pnet-segment,04\n" × None "pnet-segment, 4\n" × None "pnet-segment,4 \n" × None "pnet-segment,\n" × None "pnet-segment,-4\n"
    × None "worldfip-exchange,203us\n" × None "worldfip-exchange,203  us\n" × None "worldfip-exchange,203\n" × None "worldfip-exchange,203 bp\n"
    × None "pnet-stream,1,203 bp,1000 bp,1000 us\n" × None "pnet-stream,1,203bp,1000 bp,1000 bp\n" × None "pnet-stream,01,203 bp,1000 bp,1000 bp\n"
    × None "pnet-stream,1,203 bp,1000,1000 bp\n" × None "pnet-stream,1 bp,203 bp,1000 bp,1000 bp\n" × None "pnet-stream,1,203 BP,1000 bp,1000 bp\n"
unfolding record_in decimal width_of holds first_of places
numbers = (refl, refl, refl, refl, refl, refl, refl, refl, refl, refl, refl, refl, refl, refl, refl)

-- numbers that the bytes of their fields do not hold
too_great : None "pnet-segment,256\n" × None "pnet-stream,256,203 bp,1000 bp,1000 bp\n" × None "pnet-stream,1,65536 bp,1000 bp,1000 bp\n"
    × None "pnet-stream,1,203 bp,4294967296 bp,1000 bp\n" × None "pnet-stream,1,203 bp,1000 bp,99999999999999999999999 bp\n" × None "worldfip-variable,65536,2000 us\n"
unfolding record_in decimal width_of holds first_of places
too_great = (refl, refl, refl, refl, refl, refl)

-- the line's end: another one, none, two, and what stands before or behind it
ends : None "pnet-segment,4\r\n" × None "pnet-segment,4" × None "pnet-segment,4\r" × None "pnet-segment,4\n\n"
    × None "pnet-segment,4\nx" × None "\npnet-segment,4\n" × None "\n" × None ""
unfolding record_in decimal width_of holds first_of places
ends = (refl, refl, refl, refl, refl, refl, refl, refl)

-- a comma behind the last cell, a cell missing or too many, semicolons
cells : None "pnet-segment,4,\n" × None "pnet-stream,1,203 bp,1000 bp\n" × None "pnet-stream,1,203 bp,1000 bp,1000 bp,\n"
    × None "pnet-stream,1,203 bp,1000 bp,1000 bp,0\n" × None "pnet-stream,1,,1000 bp,1000 bp\n" × None "pnet-segment;4\n" × None "worldfip-variable,17;2000 us\n" × None "pnet-segment\n" × None ",4\n"
unfolding record_in decimal width_of holds first_of places
cells = (refl, refl, refl, refl, refl, refl, refl, refl, refl)

-- a ring has no longest message of its own, and that of a master has a unit
messages : None "profibus-ring,2,500 bp,300 bp\n" × None "profibus-ring,2\n" × None "profibus-ring,2,500\n" × None "profibus-message,1\n" × None "profibus-message,1,500\n"
    × None "profibus-message,256,500 bp\n" × None "profibus-messages,1,500 bp\n"
unfolding record_in decimal width_of holds first_of places
messages = (refl, refl, refl, refl, refl, refl, refl)

-- words: of no kind, in capitals, cut, with something before or behind; and the bytes EF BB BF in front
spelling : None "profibus-rings,2,500 bp\n" × None "PNET-segment,4\n" × None "Pnet-segment,4\n" × None "pnet-segmen,4\n" × None "pnet-segments,4\n"
    × None " pnet-segment,4\n" × None "pnet-segment ,4\n" × None "pnet_segment,4\n" × (record_in (239 ∷ 187 ∷ 191 ∷ word "pnet-segment,4\n") ≡ nothing)
unfolding record_in decimal width_of holds first_of places
spelling = (refl, refl, refl, refl, refl, refl, refl, refl, refl)

-- a text is taken for one of lines by its first word alone
heads : (kind_in (word "pnet-stream,?") ≡ 2) × (kind_in (word "worldfip-variable,") ≡ 6) × (kind_in (word "worldfip-variable") ≡ 0) × (kind_in (1 ∷ 2 ∷ []) ≡ 0)
unfolding kind_in
heads = (refl, refl, refl, refl)
