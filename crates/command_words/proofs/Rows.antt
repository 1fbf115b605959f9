-- Words that the command refuses, and what it reads in words that it takes.
use Rattle.std.proofs.Common.{◌≡◌, refl, true, false, codes, List, [], ◌∷◌, ◌++◌, Option, Some, None, option_map}
use Rattle.std.proofs.Common.{ℕ}
use Rattle.clap.specs.Words.{Row, Text, one_of, subcommand_of}
use Rattle.clap.proofs.OnLiterals.{clap_on_literals}
use Rattle.command_words.specs.Words.{FactorNames, MarketNames, bits_of, factor_names, market_names, refuses, sced_app, sced_app_over, size_of}
use Rattle.market_data.specs.declared.scales.FactorPlaces.TheVariants as factor_places
use Rattle.net_case.specs.declared.live_parts.PostRating.TheVariants as post
use Rattle.number_bits.specs.declared.NumberBits.{NumberBits}
use Rattle.number_bits.specs.declared.NumberBits.TheVariants as number_bits

-- the words of a clear that names what it must
abbrev least : List Text
least = codes "sced" ∷ codes "clear" ∷ codes "--case" ∷ codes "n.m" ∷ codes "--ptdf" ∷ codes "p" ∷ codes "--offers=o" ∷ []

abbrev by_b : List Text
by_b = least ++ codes "--lodf" ∷ codes "l" ∷ codes "--contingencies" ∷ codes "k" ∷ codes "--unit-outages" ∷ codes "u" ∷ codes "--reserves" ∷ codes "v" ∷ codes "--offsets" ∷ codes "s" ∷ codes "--penalties" ∷ codes "w" ∷ codes "--post-rating" ∷ codes "b" ∷ codes "--factor-places" ∷ codes "9" ∷ codes "--number-bits" ∷ codes "1023" ∷ []

abbrev by_d : List Text
by_d = least ++ codes "--post-rating" ∷ codes "d" ∷ []

abbrev seven_places : List Text
seven_places = least ++ codes "--factor-places" ∷ codes "7" ∷ []

-- a number of bits that is none of the two, and one of the two
abbrev by_128_bits : List Text
by_128_bits = codes "--number-bits" ∷ codes "128" ∷ []

abbrev by_127_bits : List Text
by_127_bits = codes "--number-bits" ∷ codes "127" ∷ []

abbrev no_rights : List Text
no_rights = codes "sced" ∷ codes "rights" ∷ codes "--case" ∷ codes "n.m" ∷ codes "--ptdf" ∷ codes "p" ∷ codes "--offers=o" ∷ []

abbrev no_out : List Text
no_out = codes "sced" ∷ codes "migrate" ∷ codes "--certificate" ∷ codes "x" ∷ []

-- the words of `factors` that name what they must, and those that name a case alone
abbrev no_ptdf_out : List Text
no_ptdf_out = codes "sced" ∷ codes "factors" ∷ codes "--case" ∷ codes "n.m" ∷ []

abbrev made_tables : List Text
made_tables = no_ptdf_out ++ codes "--ptdf-out" ∷ codes "p" ∷ []

abbrev twice : List Text
twice = least ++ codes "--offers" ∷ codes "o" ∷ []

abbrev no_offers : List Text
no_offers = codes "sced" ∷ codes "clear" ∷ codes "--case" ∷ codes "n.m" ∷ codes "--ptdf" ∷ codes "p" ∷ []

abbrev certified : List Text
certified = least ++ codes "--certificate" ∷ codes "x" ∷ []

-- the words of a replay that names what a clear must, and of such a verification
abbrev no_edits : List Text
no_edits = codes "sced" ∷ codes "replay" ∷ codes "--case" ∷ codes "n.m" ∷ codes "--ptdf" ∷ codes "p" ∷ codes "--offers=o" ∷ []

abbrev no_certificate : List Text
no_certificate = codes "sced" ∷ codes "verify" ∷ codes "--case" ∷ codes "n.m" ∷ codes "--ptdf" ∷ codes "p" ∷ codes "--offers=o" ∷ codes "--edits" ∷ codes "e" ∷ []

-- what the options of `factors` name
abbrev factors_by : List Text → Option FactorNames
factors_by words = option_map (λ (entry : Text × List Row). factor_names entry.1) (subcommand_of sced_app words)

-- the words of a made ring
abbrev of_size : Text → Text → List Text
of_size size seed = codes "sced" ∷ codes "make" ∷ size ∷ seed ∷ []

-- what the options of the subcommand name
abbrev named_by : List Text → Option MarketNames
named_by words = option_map (λ (entry : Text × List Row). market_names entry.1) (subcommand_of sced_app words)

least-taken : refuses least ≡ false
unfolding clap_on_literals refuses sced_app sced_app_over
least-taken = refl

least-named : named_by least
    ≡ Some (record {
      tables = record { grid = record { case = codes "n.m"; ptdf = codes "p"; lodf = None; contingencies = None }; unit_outages = None; offers = codes "o"; reserves = None; offsets = None; penalties = None };
      rating = post.C;
      places = factor_places.Six;
      bits = number_bits.Bits127;
    })
unfolding clap_on_literals sced_app sced_app_over
least-named = refl

by_b-taken : refuses by_b ≡ false
unfolding clap_on_literals refuses sced_app sced_app_over
by_b-taken = refl

by_b-named : named_by by_b
    ≡ Some (record {
      tables = record { grid = record { case = codes "n.m"; ptdf = codes "p"; lodf = Some (codes "l"); contingencies = Some (codes "k") }; unit_outages = Some (codes "u"); offers = codes "o"; reserves = Some (codes "v"); offsets = Some (codes "s"); penalties = Some (codes "w") };
      rating = post.B;
      places = factor_places.Nine;
      bits = number_bits.Bits1023;
    })
unfolding clap_on_literals sced_app sced_app_over
by_b-named = refl

by_d-refused : refuses by_d ≡ true
unfolding clap_on_literals refuses sced_app sced_app_over
by_d-refused = refl

seven_places-refused : refuses seven_places ≡ true
unfolding clap_on_literals refuses sced_app sced_app_over
seven_places-refused = refl

by_128_bits-refused : refuses (least ++ by_128_bits) ≡ true
unfolding clap_on_literals refuses sced_app sced_app_over
by_128_bits-refused = refl

by_127_bits-taken : refuses (least ++ by_127_bits) ≡ false
unfolding clap_on_literals refuses sced_app sced_app_over
by_127_bits-taken = refl

no_rights-refused : refuses no_rights ≡ true
unfolding clap_on_literals refuses sced_app sced_app_over
no_rights-refused = refl

rights-taken : refuses (no_rights ++ codes "--rights" ∷ codes "r" ∷ []) ≡ false
unfolding clap_on_literals refuses sced_app sced_app_over
rights-taken = refl

rights-refuse_certificate : refuses (no_rights ++ codes "--rights" ∷ codes "r" ∷ codes "--certificate" ∷ codes "x" ∷ []) ≡ true
unfolding clap_on_literals refuses sced_app sced_app_over
rights-refuse_certificate = refl

no_out-refused : refuses no_out ≡ true
unfolding clap_on_literals refuses sced_app sced_app_over
no_out-refused = refl

out-taken : refuses (no_out ++ codes "--out" ∷ codes "y" ∷ []) ≡ false
unfolding clap_on_literals refuses sced_app sced_app_over
out-taken = refl

-- how many bits the options of `migrate` tell
abbrev bits_by : List Text → Option NumberBits
bits_by words = option_map (λ (entry : Text × List Row). bits_of entry.1) (subcommand_of sced_app words)

out-by_127 : bits_by (no_out ++ codes "--out" ∷ codes "y" ∷ []) ≡ Some number_bits.Bits127
unfolding clap_on_literals sced_app sced_app_over
out-by_127 = refl

out-by_1023 : bits_by (no_out ++ codes "--out" ∷ codes "y" ∷ codes "--number-bits" ∷ codes "1023" ∷ []) ≡ Some number_bits.Bits1023
unfolding clap_on_literals sced_app sced_app_over
out-by_1023 = refl

out-refuses_128 : refuses (no_out ++ codes "--out" ∷ codes "y" ∷ by_128_bits) ≡ true
unfolding clap_on_literals refuses sced_app sced_app_over
out-refuses_128 = refl

no_ptdf_out-refused : refuses no_ptdf_out ≡ true
unfolding clap_on_literals refuses sced_app sced_app_over
no_ptdf_out-refused = refl

made_tables-taken : refuses made_tables ≡ false
unfolding clap_on_literals refuses sced_app sced_app_over
made_tables-taken = refl

made_tables-named : factors_by (made_tables ++ codes "--lodf-out" ∷ codes "l" ∷ codes "--contingencies" ∷ codes "k" ∷ codes "--factor-places" ∷ codes "9" ∷ [])
    ≡ Some (record { case = codes "n.m"; contingencies = Some (codes "k"); ptdf_out = codes "p"; lodf_out = Some (codes "l"); places = factor_places.Nine })
unfolding clap_on_literals sced_app sced_app_over
made_tables-named = refl

twice-refused : refuses twice ≡ true
unfolding clap_on_literals refuses sced_app sced_app_over
twice-refused = refl

no_offers-refused : refuses no_offers ≡ true
unfolding clap_on_literals refuses sced_app sced_app_over
no_offers-refused = refl

certified-taken : refuses certified ≡ false
unfolding clap_on_literals refuses sced_app sced_app_over
certified-taken = refl

no_edits-refused : refuses no_edits ≡ true
unfolding clap_on_literals refuses sced_app sced_app_over
no_edits-refused = refl

edits-taken : refuses (no_edits ++ codes "--edits" ∷ codes "e" ∷ []) ≡ false
unfolding clap_on_literals refuses sced_app sced_app_over
edits-taken = refl

no_certificate-refused : refuses no_certificate ≡ true
unfolding clap_on_literals refuses sced_app sced_app_over
no_certificate-refused = refl

certificate-taken : refuses (no_certificate ++ codes "--certificate" ∷ codes "x" ∷ []) ≡ false
unfolding clap_on_literals refuses sced_app sced_app_over
certificate-taken = refl

-- the number of buses that the words give, and the text of the seed
abbrev ring_by : List Text → Option (ℕ × Option Text)
ring_by words = option_map (λ (entry : Text × List Row). (size_of entry.1, one_of (codes "SEED") entry.1)) (subcommand_of sced_app words)

four-taken : refuses (of_size (codes "4") (codes "7")) ≡ false
unfolding clap_on_literals refuses sced_app sced_app_over
four-taken = refl

five-refused : refuses (of_size (codes "5") (codes "7")) ≡ true
unfolding clap_on_literals refuses sced_app sced_app_over
five-refused = refl

greatest-taken : refuses (of_size (codes "64") (codes "4294967295")) ≡ false
unfolding clap_on_literals refuses sced_app sced_app_over
greatest-taken = refl

greatest-read : ring_by (of_size (codes "64") (codes "4294967295")) ≡ Some (64, Some (codes "4294967295"))
unfolding clap_on_literals sced_app sced_app_over
greatest-read = refl

greater-refused : refuses (of_size (codes "64") (codes "4294967296")) ≡ true
unfolding clap_on_literals refuses sced_app sced_app_over
greater-refused = refl
