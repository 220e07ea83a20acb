pub mod PlacesHad
