-- Examples 15 and 16 of document 01: the sheet and the listing of the table that example 2 leaves, its totals
-- (document 02, R-7), and its listing with numbers (R-9).
-- And of the table that an RDS list with OE 1 leaves (R-3): its sheet, its listing, and for air the block that it was read from. The
-- others are in crate rules.
use mathlib.Core.Path.{◌≡◌, refl}
use mathlib.Core.Bool.{true}
use mathlib.Core.List.{[], ◌∷◌}
use mathlib.Core.Option.{some}
use Rattle.rules.specs.Block.{bits, bit, number, generator, shift, shifts, register, check_of}
use Rattle.rules.specs.Field.{width, kind_in, first_kind, pair}
use Rattle.rules.specs.Collecting.{key_width, first_of, showing, shown_sets, confirming, confirmed_sets}
use Rattle.rules.proofs.Examples.{E, two, other, codes, O}
use Rattle.lists.specs.Kinds.{has_kind}
use Rattle.out.specs.Text.{hex_digit, hex_text, decimal_to, decimal}
use Rattle.layout.specs.Sheet.{groups, sheet_number, sheet_pairs, sheet_set, sheet_sets, sheet}
use Rattle.pieces.specs.Air.{piece_most, goes_on, piece_with, completed, chop, start_qualifier, cut, dead_link, pieces, big_bytes, all_bytes, field_bytes, fig_bytes, block_of, blocks_of, set_blocks, all_blocks, air}
use Rattle.totals.specs.Totals.{sum_of, sums, totals_of}
use Rattle.screen.specs.Screen.{totals_text}
use Rattle.screen.specs.Screen as screen
use Rattle.text.specs.Listing.{kind_letter, pair_text, pairs_text, dead_text, state_text, ids_text, line_of, lines_of, tail_text, listing}
use Rattle.text.specs.Confirmed.{line_with, block_text, confirmed_line, confirmed_lines, blocks_text, confirmed_listing}

pub sheet_holds : sheet (E 2 true (some two) 2 (some two)) ≡ 0x01 ∷ 0x84 ∷ 0x40 ∷ 0x01 ∷ 0x01 ∷ 0x02 ∷ 0x00 ∷ 0xB1 ∷ 0x89 ∷ 0x01 ∷ 0x01 ∷ 0xB1 ∷ 0x89 ∷ 0x01 ∷ []
unfolding sheet sheet_sets sheet_set sheet_pairs sheet_number groups bit shown_sets showing pair
sheet_holds = refl

-- `sets 1` and `2004 on ids 2 D44B1 R44B1`
pub listing_holds : listing (E 2 true (some two) 2 (some two)) 0 ≡ 115 ∷ 101 ∷ 116 ∷ 115 ∷ 32 ∷ 49 ∷ 10 ∷ 50 ∷ 48 ∷ 48 ∷ 52 ∷ 32 ∷ 111 ∷ 110 ∷ 32 ∷ 105 ∷ 100 ∷ 115 ∷ 32 ∷ 50 ∷ 32 ∷ 68 ∷ 52 ∷ 52 ∷ 66 ∷ 49 ∷ 32 ∷ 82 ∷ 52 ∷ 52 ∷ 66 ∷ 49 ∷ 10 ∷ []
unfolding listing lines_of line_of pairs_text pair_text dead_text state_text ids_text tail_text kind_letter hex_text hex_digit decimal decimal_to has_kind key_width width shown_sets showing pair
listing_holds = refl

-- `shown 1, on 1, identifiers 2`
pub totals_hold : totals_text (E 2 true (some two) 2 (some two)) ≡ 115 ∷ 104 ∷ 111 ∷ 119 ∷ 110 ∷ 32 ∷ 49 ∷ 44 ∷ 32 ∷ 111 ∷ 110 ∷ 32 ∷ 49 ∷ 44 ∷ 32 ∷ 105 ∷ 100 ∷ 101 ∷ 110 ∷ 116 ∷ 105 ∷ 102 ∷ 105 ∷ 101 ∷ 114 ∷ 115 ∷ 32 ∷ 50 ∷ 10 ∷ []
unfolding totals_text screen.line_of totals_of sums sum_of bit decimal decimal_to shown_sets showing
totals_hold = refl

-- `sets 1 blocks 2` and `2004 on #2 ids 2 D44B1 R44B1`
pub confirmed_holds : confirmed_listing (E 2 true (some two) 2 (some two)) 0 ≡ 115 ∷ 101 ∷ 116 ∷ 115 ∷ 32 ∷ 49 ∷ 32 ∷ 98 ∷ 108 ∷ 111 ∷ 99 ∷ 107 ∷ 115 ∷ 32 ∷ 50 ∷ 10 ∷ 50 ∷ 48 ∷ 48 ∷ 52 ∷ 32 ∷ 111 ∷ 110 ∷ 32 ∷ 35 ∷ 50 ∷ 32 ∷ 105 ∷ 100 ∷ 115 ∷ 32 ∷ 50 ∷ 32 ∷ 68 ∷ 52 ∷ 52 ∷ 66 ∷ 49 ∷ 32 ∷ 82 ∷ 52 ∷ 52 ∷ 66 ∷ 49 ∷ 10 ∷ []
unfolding confirmed_listing confirmed_lines confirmed_line line_with block_text blocks_text pairs_text pair_text dead_text state_text ids_text tail_text kind_letter hex_text hex_digit decimal decimal_to has_kind key_width width confirmed_sets confirming pair
confirmed_holds = refl

pub other_sheet_holds : sheet (O 2 (some codes) 2 (some codes)) ≡ 0x01 ∷ 0x84 ∷ 0xC0 ∷ 0x02 ∷ 0x01 ∷ 0x01 ∷ 0x02 ∷ 0x01 ∷ 0xB1 ∷ 0x89 ∷ 0x01 ∷ 0x01 ∷ 0xB1 ∷ 0x87 ∷ 0x01 ∷ []
unfolding sheet sheet_sets sheet_set sheet_pairs sheet_number groups bit shown_sets showing pair
other_sheet_holds = refl

-- `sets 1` and `A004 on ids 2 R44B1 R43B1`
pub other_listing_holds : listing (O 2 (some codes) 2 (some codes)) 0 ≡ 115 ∷ 101 ∷ 116 ∷ 115 ∷ 32 ∷ 49 ∷ 10 ∷ 65 ∷ 48 ∷ 48 ∷ 52 ∷ 32 ∷ 111 ∷ 110 ∷ 32 ∷ 105 ∷ 100 ∷ 115 ∷ 32 ∷ 50 ∷ 32 ∷ 82 ∷ 52 ∷ 52 ∷ 66 ∷ 49 ∷ 32 ∷ 82 ∷ 52 ∷ 51 ∷ 66 ∷ 49 ∷ 10 ∷ []
unfolding listing lines_of line_of pairs_text pair_text dead_text state_text ids_text tail_text kind_letter hex_text hex_digit decimal decimal_to has_kind key_width width shown_sets showing pair
other_listing_holds = refl

pub other_air_holds : air (O 2 (some codes) 2 (some codes)) ≡ other
unfolding air all_blocks set_blocks blocks_of block_of fig_bytes field_bytes all_bytes big_bytes pieces cut start_qualifier kind_in chop completed goes_on piece_with dead_link piece_most has_kind first_of first_kind key_width width shown_sets showing pair bits bit number generator shift shifts register check_of mathlib.Core.Bool.xor mathlib.Core.List.zip_with
other_air_holds = refl
