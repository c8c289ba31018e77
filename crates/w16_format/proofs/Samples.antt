-- The samples are as they were worked out.
use Rattle.w16_format.proofs.Common.{refl, tables_at, tables_behind, place_at, header_at, fields_of, segments_at, entries_at, segment_at, data_at, records_at, resident_at, names_at, name_at, nonresident_at, table_names, references_at, texts_at, text_at, table_at, entries_in, bundle_in}
use Rattle.w16_format.proofs.Common.{resources_at, blocks_at, block_at, typed_in, typed_at, resources_of, label_at, checked, check_from, sites_at, chain_at, site_at, record_at, target_at, repeated, tlib, tapp, tres, IsLibrary, IsProgram, HasResource, SamplesLaw}
use Rattle.w16_ne.specs.Resources.{resource_at}

library : IsLibrary
unfolding repeated tlib tapp tres tables_at tables_behind place_at header_at fields_of segments_at entries_at
    segment_at data_at records_at resident_at names_at name_at nonresident_at table_names references_at texts_at
    text_at table_at entries_in bundle_in resources_at blocks_at block_at typed_in typed_at resources_of resource_at
    label_at checked check_from sites_at chain_at site_at record_at target_at
library = record { name = refl; library = refl; entries = refl; segments = refl; sound = refl; targets = refl; images = refl }

program : IsProgram
unfolding repeated tlib tapp tres tables_at tables_behind place_at header_at fields_of segments_at entries_at
    segment_at data_at records_at resident_at names_at name_at nonresident_at table_names references_at texts_at
    text_at table_at entries_in bundle_in resources_at blocks_at block_at typed_in typed_at resources_of resource_at
    label_at checked check_from sites_at chain_at site_at record_at target_at
program = record { library = refl; references = refl; targets = refl }

resource : HasResource
unfolding repeated tlib tapp tres tables_at tables_behind place_at header_at fields_of segments_at entries_at
    segment_at data_at records_at resident_at names_at name_at nonresident_at table_names references_at texts_at
    text_at table_at entries_in bundle_in resources_at blocks_at block_at typed_in typed_at resources_of resource_at
    label_at checked check_from sites_at chain_at site_at record_at target_at
resource = record { resources = refl; contents = refl }

pub samples : SamplesLaw
samples = (library, program, resource)
