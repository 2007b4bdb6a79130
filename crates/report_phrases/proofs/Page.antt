-- Page 01, 'Sheets worked by hand': refusals as the page prints them, and page 02's 20, 21 and 23 in the same words. Assumes nothing.
use mathlib.Core.Path.{◌≡◌, refl}
use Rattle.common.specs.Sums.{first_of}
use Rattle.text.specs.Text.{word, places, holds, width_of, decimal}
use Rattle.report_phrases.specs.Phrases.{place_text, refused_text, refusal_text}

refusals : (refusal_text 6 2 ≡ word "refused 6 at byte 2\n") × (refusal_text 8 3 ≡ word "refused 8 at stream 3\n") × (refusal_text 9 1 ≡ word "refused 9 at stream 1\n")
    × (refusal_text 10 0 ≡ word "refused 10\n") × (refusal_text 11 0 ≡ word "refused 11\n") × (refusal_text 12 4 ≡ word "refused 12 at variable 4\n")
    × (refusal_text 20 6 ≡ word "refused 20 at byte 6\n") × (refusal_text 21 3 ≡ word "refused 21 at stream 3\n") × (refusal_text 23 2 ≡ word "refused 23 at line 2\n")
unfolding refusal_text refused_text place_text decimal places width_of holds first_of
refusals = (refl, refl, refl, refl, refl, refl, refl, refl, refl)
