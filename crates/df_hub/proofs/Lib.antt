mod At
