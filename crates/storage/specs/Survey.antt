-- What a report on an image says of it.
use Rattle.std.specs.Prelude.{ℕ, ◌-◌, ◌^◌, false, true, if◌then◌else◌, List, [], ◌∷◌, ◌++◌, length, Some, None, Option, Ok, Err, Result, codes, decimal}
use Rattle.std.specs.Fmt.{digits, padded_integral, format_spec}
use Rattle.refusal.specs.declared.Refusal.{Refusal}
use Rattle.refusal.specs.declared.Refusal.TheVariants.{Length}
use Rattle.storage.specs.declared.survey.Survey.{Survey}
use Rattle.storage.specs.Memory.{protected_count, first_wrong_address}
use Rattle.storage.specs.Image.{fits, decoding, words_of}

-- a core of these words
abbrev pub survey_of : List ℕ → Survey
survey_of core = record { words = length core; protected = protected_count core; first_wrong = first_wrong_address core }

abbrev pub when_decoded : Result (Unit {0}) Refusal → List ℕ → Result Survey Refusal
when_decoded (Ok u) image = Ok (survey_of (words_of image))
when_decoded (Err e) image = Err e

-- with a core of n words and a buffer of so many bytes to work in
abbrev pub surveying : List ℕ → ℕ → ℕ → Result Survey Refusal
surveying image n bytes = if fits n bytes then when_decoded (decoding image n) image else Err Length

-- what is left in the core, and in the buffer: of an image that is accepted its words, and the image itself
abbrev pub core_after : Result Survey Refusal → List ℕ → List ℕ → List ℕ
core_after (Ok s) image core = words_of image
core_after (Err e) image core = core

abbrev pub buffer_after : Result Survey Refusal → List ℕ → List ℕ → List ℕ
buffer_after (Ok s) image buffer = image
buffer_after (Err e) image buffer = buffer

-- an address as `{:04X}` prints it, in hexadecimal with at least four digits
abbrev pub place_text : Option ℕ → List ℕ
place_text (Some address) = padded_integral (format_spec 32 0 4 4 (2 ^ 64 - 1)) false [] (digits 16 true address)
place_text None = codes "none"

-- what a program prints of it: three lines, each but the last with its end
abbrev pub survey_text : Survey → List ℕ
survey_text s =
    (codes "words " ++ decimal s.words ++ 10 ∷ []) ++ ((codes "protected " ++ decimal s.protected ++ 10 ∷ []) ++ (codes "first wrong parity " ++ place_text s.first_wrong))
