-- Page 01, 'Sheet records': closed examples, as the definitions compute them. Assumes nothing.
use mathlib.Core.Path.{◌≡◌, refl}
use mathlib.Core.Bool.{false}
use mathlib.Core.List.{[], ◌∷◌, map}
use Rattle.sheet_record.specs.declared.Met.{Met}
use Rattle.sheet_record.specs.declared.Record.{Record}
use Rattle.sheet_record.specs.Numbers.{be, digits}
use Rattle.sheet_record.specs.Kinds.{kinds, line_of, fields_of, widths, size_of, known, field_at, decode, body, encode, whole, nothing, met_at, met_of}

-- the ten kinds: a byte of kind, and a body of 1, 11, 9, 9, 4, 6, 15, 1, 5, 5
sizes : map size_of (1 ∷ 2 ∷ 3 ∷ 4 ∷ 5 ∷ 6 ∷ 7 ∷ 8 ∷ 9 ∷ 10 ∷ []) ≡ 2 ∷ 12 ∷ 10 ∷ 10 ∷ 5 ∷ 7 ∷ 16 ∷ 2 ∷ 6 ∷ 6 ∷ []
unfolding size_of widths fields_of line_of kinds
sizes = refl

-- no other kind is known
unknown_kinds : map known (0 ∷ 11 ∷ 99 ∷ 255 ∷ []) ≡ false ∷ false ∷ false ∷ false ∷ []
unfolding known fields_of line_of kinds
unknown_kinds = refl

-- a P-NET stream of master 1: C = 203, T = D = 100,000
abbrev stream : Record
stream = record { kind = 2; a = 1; b = 203; c = 100000; d = 100000; e = 0 }

stream_bytes : encode stream ≡ 2 ∷ 1 ∷ 0 ∷ 203 ∷ 0 ∷ 1 ∷ 134 ∷ 160 ∷ 0 ∷ 1 ∷ 134 ∷ 160 ∷ []
unfolding encode body digits fields_of line_of kinds
stream_bytes = refl

stream_decoded : decode (1 ∷ 2 ∷ 2 ∷ 1 ∷ 0 ∷ 203 ∷ 0 ∷ 1 ∷ 134 ∷ 160 ∷ 0 ∷ 1 ∷ 134 ∷ 160 ∷ []) 2 ≡ stream
unfolding decode field_at be fields_of line_of kinds
stream_decoded = refl

-- one of master 2 that comes up to 900 late: C = 203, T = 1,000, D = 100
abbrev pub late : Record
late = record { kind = 7; a = 2; b = 203; c = 1000; d = 100; e = 900 }

late_bytes : encode late ≡ 7 ∷ 2 ∷ 0 ∷ 203 ∷ 0 ∷ 0 ∷ 3 ∷ 232 ∷ 0 ∷ 0 ∷ 0 ∷ 100 ∷ 0 ∷ 0 ∷ 3 ∷ 132 ∷ []
unfolding encode body digits fields_of line_of kinds
late_bytes = refl

-- a segment of two masters, asked for as a segment; as a stream it is nothing, and the place is its own
abbrev segment : Met
segment = record { found = record { kind = 1; a = 2; b = 0; c = 0; d = 0; e = 0 }; next = 2 }

met_as_segment : met_of (1 ∷ 2 ∷ []) 0 1 ≡ segment
unfolding met_of met_at whole known size_of widths decode field_at be fields_of line_of kinds
met_as_segment = refl

met_as_stream : met_of (1 ∷ 2 ∷ []) 0 2 ≡ record { found = nothing; next = 0 }
unfolding met_of
met_as_stream = refl
